use Rattle.std.proofs.Common.{subst, sym}
use Rattle.tau_trace.specs.Run.{len}
use Rattle.tau_eval.specs.Effect.{eff_of}
use Rattle.tau_legal.specs.Turns.{TurnHas}
use Rattle.tau_legal.proofs.SafetyLemmas.{keeps_rules}
use Rattle.tau_rules.specs.System.{Core}
use Rattle.tau_rules.proofs.ActLemmasOfJobs.{turn_exists}
use Rattle.tau_rules.proofs.system.System.freedom.Goals as goal

pub is_free-requires-clause-rules : goal.is_free-requires-clause-rules
is_free-requires-clause-rules g c = keeps_rules c.self.inside.program.now c.self.inside.trace.run c.self.invariant.0.fitting

pub is_free-requires-clause-exists : goal.is_free-requires-clause-exists
is_free-requires-clause-exists g c =
    let has = subst (λ (k : Core). TurnHas k.program k.run c.args.who (len k.run) (eff_of c.args.effect.now)) (sym c.self.view_is) c.requires in
    turn_exists c.self.inside.program.now c.self.inside.trace.run c.self.invariant.0.well_formed c.args.who (eff_of c.args.effect.now) has
