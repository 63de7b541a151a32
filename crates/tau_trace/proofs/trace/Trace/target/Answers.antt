use Rattle.std.proofs.Common.{◌≡◌, ◌<◌, ◌∙◌, ap, length, arith, sym, Some, None, Option}
use Rattle.std.specs.Prelude.{slice_get}
use Rattle.tau_trace.specs.Run.{Run, len}
use Rattle.tau_trace.proofs.Reading as reading
use Rattle.tau_trace.proofs.trace.Trace.target.Goals as goal

pub returns-in_err-message_of : goal.returns-in_err-message_of
returns-in_err-message_of c =
    let T : Run = record { opening = c.self.inside.opening; steps = c.self.inside.steps.items } in
    let ts = c.self.inside.transactors in
    let ms = c.self.inside.messages.items in
    let made = c.self.inside.made.items in
    let none : slice_get ms c.args.message ≡ None = sym (c.message_of.ensures ∙ ap (λ xs. slice_get xs c.args.message) c.deref.ensures.value) ∙ c.in_err-message_of.was in
    rw (← c.self.view_is, c.from_residual.ensures) (reading.no_receiver T made ts ms c.self.invariant c.args.message none)

pub returns : goal.returns
returns c =
    let T : Run = record { opening = c.self.inside.opening; steps = c.self.inside.steps.items } in
    let ts = c.self.inside.transactors in
    let ms = c.self.inside.messages.items in
    let made = c.self.inside.made.items in
    let found : slice_get ms c.args.message ≡ Some c.in_ok-message_of.field-0 = sym (c.message_of.ensures ∙ ap (λ xs. slice_get xs c.args.message) c.deref.ensures.value) ∙ c.in_ok-message_of.was in
    rw (← c.self.view_is) (reading.tracks_message T made ts ms c.self.invariant c.args.message c.in_ok-message_of.field-0 found).receiver
