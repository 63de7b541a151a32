use Rattle.std.proofs.Common.{◌≡◌, ◌<◌, ◌∙◌, ap, length, arith, sym, Some, None, Option}
use Rattle.std.specs.Prelude.{slice_get}
use Rattle.tau_trace.specs.Run.{Run, len}
use Rattle.tau_trace.proofs.Reading as reading
use Rattle.tau_trace.proofs.trace.Trace.open_turn.Goals as goal

pub returns-in_err-get : goal.returns-in_err-get
returns-in_err-get c =
    let T : Run = record { opening = c.self.inside.opening; steps = c.self.inside.steps.items } in
    let ts = c.self.inside.transactors in
    let ms = c.self.inside.messages.items in
    let made = c.self.inside.made.items in
    let none : slice_get ts.transactors c.args.who ≡ None = sym c.get.ensures ∙ c.in_err-get.was in
    rw (← c.self.view_is, c.from_residual.ensures) (reading.no_turn T made ts ms c.self.invariant c.args.who none)
