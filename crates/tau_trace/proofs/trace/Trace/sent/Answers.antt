use Rattle.std.proofs.Common.{◌≡◌, ◌<◌, ◌∙◌, ap, length, arith, sym, Some, None, Option}
use Rattle.std.specs.Prelude.{slice_get}
use Rattle.tau_trace.specs.Run.{Run, len}
use Rattle.tau_trace.proofs.Reading as reading
use Rattle.tau_trace.proofs.trace.Trace.sent.Goals as goal
use Rattle.tau_trace.proofs.Indexing.{few_messages}

pub overflow_cast-result : goal.overflow_cast-result
overflow_cast-result c =
    let T : Run = record { opening = c.self.inside.opening; steps = c.self.inside.steps.items } in
    let ts = c.self.inside.transactors in
    let ms = c.self.inside.messages.items in
    let made = c.self.inside.made.items in
    omega (arith, few_messages T made ts ms c.self.invariant, c.len.ensures, c.self.inside.messages.ok.0)
