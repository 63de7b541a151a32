use Rattle.std.proofs.Common.{◌≡◌, ◌≤◌, true, length, map, ap, ◌∙◌, arith}
use Rattle.std.proofs.lemmas.List.{length-map}
use Rattle.tau_value.specs.Value.{val_of}
use Rattle.tau_tree.specs.Expr.{code_of}
use Rattle.tau_eval.specs.Effect.{eff_of}
use Rattle.tau_eval.specs.Machine.{rest_of}
use Rattle.tau_eval.specs.Course.{setting_by}
use Rattle.tau_eval.specs.Turn.{next_in}
use Rattle.tau_eval.proofs.CourseLemmas.{tells}
use Rattle.tau_eval.proofs.job.Pending.effect.Goals as goal

pub returns : goal.returns
returns c =
    let course = c.self.inside.course in
    let all : length (map val_of course.replies.items) ≡ length course.replies.items = length-map course.replies.items val_of in
    tells (code_of course.body.now) (setting_by course) (map val_of course.replies.items) course.used (eff_of c.self.inside.effect) course.machine.count (rest_of course.machine (setting_by course) course.machine.scope) c.self.invariant.goes_on (λ has. let within : length course.replies.items ≤ course.used = c.self.invariant.settled has in omega arith) ∙ ap next_in c.self.view_is
