use Rattle.std.proofs.Common.{ap, ◌∙◌}
use Rattle.tau_eval.specs.Outcome.{Outcome, and_then, effect_of}
use Rattle.tau_eval.specs.Machine.{rest_of}
use Rattle.tau_eval.specs.Settings.{setting_of}
use Rattle.tau_eval.proofs.machine.Machine.rounds.Goals as goal

pub returns-clause-goes : goal.returns-clause-goes
returns-clause-goes c = λ rs.
    ap (λ (o : Outcome). effect_of (and_then o (rest_of c.args.self.now (setting_of c.args.setting) c.args.self.now.scope))) (c.rounds_at-next.ensures.goes rs) ∙ c.each.ensures.goes (setting_of c.args.setting) rs
