use Rattle.std.proofs.Common.{◌≡◌, ◌<◌, ◌∙◌, ap, length, arith, sym, Some, None, Option}
use Rattle.std.specs.Prelude.{slice_get}
use Rattle.tau_trace.specs.Run.{Run, len}
use Rattle.tau_trace.proofs.Reading as reading
use Rattle.tau_trace.proofs.trace.Trace.home.Goals as goal

pub returns-clause-home : goal.returns-clause-home
returns-clause-home c =
    let T : Run = record { opening = c.self.inside.opening; steps = c.self.inside.steps.items } in
    let ts = c.self.inside.transactors in
    let ms = c.self.inside.messages.items in
    let made = c.self.inside.made.items in
    let found : slice_get ts.transactors c.args.who ≡ Some c.in_ok-get.field-0 = sym c.get.ensures ∙ c.in_ok-get.was in
    rw (← c.self.view_is) (reading.tracks T made ts ms c.self.invariant c.args.who c.in_ok-get.field-0 found).home
