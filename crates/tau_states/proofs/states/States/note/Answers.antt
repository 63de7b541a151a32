use Rattle.std.proofs.Common.{◌∙◌, ap, sym, subst}
use Rattle.tau_trace.specs.Run.{appended}
use Rattle.tau_states.specs.Effects.{changed}
use Rattle.tau_states.specs.Table.{Holds}
use Rattle.tau_states.proofs.states.States.note.Goals as goal

pub returns-clause-ok : goal.returns-clause-ok
returns-clause-ok c T opening w may h =
    subst (Holds (appended T c.args.step.now) opening) (ap (changed c.in_ok-change.change) (sym c.reserve.ensures.records) ∙ sym c.apply.ensures) (c.in_ok-change.ensures T opening w may h)
