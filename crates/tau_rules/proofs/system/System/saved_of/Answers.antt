use Rattle.std.proofs.Common.{subst, option_copied}
use Rattle.tau_states.specs.Opening.{opening_states}
use Rattle.tau_states.specs.Answers.{IsSavedAfter}
use Rattle.tau_rules.specs.System.{Core}
use Rattle.tau_rules.proofs.system.System.saved_of.Goals as goal

pub returns : goal.returns
returns g c =
    subst (λ (core : Core). IsSavedAfter core.run (opening_states core.program.starts) c.args.who (option_copied c.saved_of.result)) c.self.view_is (c.saved_of.ensures c.self.inside.trace.run (opening_states c.self.inside.program.now.starts) c.self.invariant.0.states_hold)
