use Rattle.std.proofs.Common.{◌≡◌, ◌<◌, ◌∙◌, ap, length, arith, sym, Some, None, Option}
use Rattle.std.specs.Prelude.{slice_get}
use Rattle.tau_trace.specs.Run.{Run, len}
use Rattle.tau_trace.proofs.Reading as reading
use Rattle.tau_trace.proofs.trace.Trace.next_living.Goals as goal

pub returns : goal.returns
returns c =
    let T : Run = record { opening = c.self.inside.opening; steps = c.self.inside.steps.items } in
    let ts = c.self.inside.transactors in
    let ms = c.self.inside.messages.items in
    let made = c.self.inside.made.items in
    rw (← c.self.view_is) (reading.next_living T made ts ms c.self.invariant c.args.node c.args.from c.first_living.result c.first_living.ensures)
