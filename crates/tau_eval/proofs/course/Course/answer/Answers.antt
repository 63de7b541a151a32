use Rattle.std.proofs.Common.{ap}
use Rattle.tau_value.specs.Value.{val_of}
use Rattle.tau_tree.specs.Expr.{code_of}
use Rattle.tau_eval.specs.Effect.{eff_of}
use Rattle.tau_eval.specs.Machine.{rest_of}
use Rattle.tau_eval.specs.Course.{setting_by}
use Rattle.tau_eval.proofs.CourseLemmas.{replied}
use Rattle.tau_eval.proofs.course.Course.answer.Goals as goal

pub evaluate-requires : goal.evaluate-requires
evaluate-requires c =
    let course = c.args.self.now in
    replied (code_of course.body.now) (setting_by course) course.replies.items course.used c.index.result.now (val_of c.in-Ok.reply) (eff_of c.args.effect) course.machine.count (rest_of course.machine (setting_by course) course.machine.scope) c.requires.course c.requires.reply c.requires.left c.index.ensures (ap val_of c.in-Ok.ensures)
