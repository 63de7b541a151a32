use Rattle.std.proofs.Common.{◌≡◌, ◌<◌, ◌^◌, ◌∙◌, ap, length, arith, sym, List, ℕ}
use Rattle.tau_trace.specs.Run.{Run, len}
use Rattle.tau_trace.specs.Known.{MayFollow}
use Rattle.tau_trace.specs.Steps.{removed_by, actor}
use Rattle.tau_trace.specs.Stored.{transactors_after, messages_after, with_new, with_sent, noted_of, removed_of}
use Rattle.tau_trace.proofs.Indexing.{few_transactors, few_numbers, noted_count}
use Rattle.tau_trace.proofs.MessageRecords.{index_appended}
use Rattle.tau_trace.specs.Numbering.{number_made}
use Rattle.tau_trace.proofs.trace.Trace.push_spare.Goals as goal

pub overflow_cast-number : goal.overflow_cast-number
overflow_cast-number c =
    let T : Run = record { opening = c.self.inside.opening; steps = c.self.inside.steps.items } in
    let ms = c.self.inside.messages.items in
    let ts = c.self.inside.transactors in
    let few : number_made c.args.step (length ts.transactors) (length ms) < 2 ^ 32 = few_numbers T c.args.step c.self.inside.made.items ts ms c.self.invariant in
    let count : c.len-2.result ≡ length ms = omega (arith, c.len-2.ensures, c.self.inside.messages.ok.0) in
    let is : c.number_made-number.result ≡ number_made c.args.step (length ts.transactors) (length ms) = c.number_made-number.ensures ∙ (λ i. number_made c.args.step (c.len.ensures i) (count i)) in
    omega (arith, few, is)

pub add_new-requires-clause-fits : goal.add_new-requires-clause-fits
add_new-requires-clause-fits c =
    let T : Run = record { opening = c.self.inside.opening; steps = c.self.inside.steps.items } in
    let ms = c.self.inside.messages.items in
    let ts = c.self.inside.transactors in
    omega (arith, few_transactors T c.self.inside.made.items ts ms c.self.invariant, ap length c.note_actor.ensures.transactors, noted_count c.args.step c.len-place.result ts.transactors)

pub invariant_of-self : goal.invariant_of-self
invariant_of-self c =
    let T : Run = record { opening = c.self.inside.opening; steps = c.self.inside.steps.items } in
    let ms = c.self.inside.messages.items in
    let ts = c.self.inside.transactors in
    let s = c.args.step in
    let count : c.len-2.result ≡ length ms = omega (arith, c.len-2.ensures, c.self.inside.messages.ok.0) in
    let place : c.len-place.result ≡ len T = omega (arith, c.len-place.ensures, c.self.inside.steps.ok.0) in
    let number : c.number_made-number.result ≡ number_made s (length ts.transactors) (length ms) = c.number_made-number.ensures ∙ (λ i. number_made s (c.len.ensures i) (count i)) in
    let may : MayFollow T s = rw (← c.self.view_is) at c.requires.step in
    let transactors : c.add_new.new.transactors.transactors ≡ transactors_after s (len T) ts.transactors =
    c.add_new.ensures.transactors ∙ ap (with_new s) (c.note_actor.ensures.transactors ∙ ap (λ k. noted_of s k ts.transactors (actor s)) place) in
    let messages : c.add_sent.new.messages.items ≡ messages_after T.steps s (len T) ms =
    c.add_sent.ensures ∙ (λ i. with_sent (c.deref.ensures.value i) (place i) s ((c.note_removed.ensures.messages ∙ ap (λ k. removed_of k ms (removed_by s)) place) i)) in
    rw (c.push_reserved-2.ensures.items, c.push_reserved.ensures.items, messages)
    (index_appended T s c.self.inside.made.items ts c.add_new.new.transactors ms c.number_made-number.result may number transactors (c.add_new.ensures.nodes ∙ c.note_actor.ensures.nodes) c.self.invariant)
