use Rattle.std.proofs.Common.{◌∙◌, ap, length, ◌<◌, sym, ◌≡◌, Some, arith, set, refl}
use Rattle.std.specs.Prelude.{slice_get}
use Rattle.std.proofs.lemmas.Option.{slice_get_read}
use Rattle.tau_trace.proofs.Lists.{same_some}
use Rattle.tau_trace.proofs.LivingLemmas.{index_noted, index_noted_end, noted}
use Rattle.tau_trace.proofs.transactors.Transactors.note.Goals as goal

pub invariant_of-self : goal.invariant_of-self
invariant_of-self c =
    let ts = c.self.inside.items.items in
    let within : c.args.who < length ts = rw (← c.self.view_is) at c.requires in
    let here : slice_get ts c.args.who ≡ Some c.index-before.result.now = slice_get_read ts (length ts) c.args.who _ refl within c.index-before.ensures in
    index_noted_end ts c.self.inside.living.items c.take_at.new.lists.items c.self.inside.full c.args.who c.args.place c.args.step.now c.index-before.result.now c.after-after.result here c.after-after.ensures (sym c.if-ends_by.ensures) c.take_at.ensures c.self.invariant

pub invariant_of-self-else-ends_by : goal.invariant_of-self-else-ends_by
invariant_of-self-else-ends_by c =
    let ts = c.self.inside.items.items in
    let within : c.args.who < length ts = rw (← c.self.view_is) at c.requires in
    let here : slice_get ts c.args.who ≡ Some c.index-before.result.now = slice_get_read ts (length ts) c.args.who _ refl within c.index-before.ensures in
    index_noted ts c.self.inside.living.items c.self.inside.full c.args.who c.args.place c.args.step.now c.index-before.result.now c.after-after.result here c.after-after.ensures (sym c.if-ends_by.ensures) c.self.invariant

pub returns-then-ends_by-clause-transactors : goal.returns-then-ends_by-clause-transactors
returns-then-ends_by-clause-transactors c = λ t e.
    let ts = c.self.inside.items.items in
    let within : c.args.who < length ts = rw (← c.self.view_is) at c.requires in
    let here : slice_get ts c.args.who ≡ Some c.index-before.result.now = slice_get_read ts (length ts) c.args.who _ refl within c.index-before.ensures in
    noted ts c.args.self.now.transactors c.args.who c.args.place c.args.step.now c.index-before.result.now c.after-after.result t (ap (λ v. v.transactors) c.self.view_is) here c.after-after.ensures e

pub returns-else-ends_by-clause-transactors : goal.returns-else-ends_by-clause-transactors
returns-else-ends_by-clause-transactors c = λ t e.
    let ts = c.self.inside.items.items in
    let within : c.args.who < length ts = rw (← c.self.view_is) at c.requires in
    let here : slice_get ts c.args.who ≡ Some c.index-before.result.now = slice_get_read ts (length ts) c.args.who _ refl within c.index-before.ensures in
    noted ts c.args.self.now.transactors c.args.who c.args.place c.args.step.now c.index-before.result.now c.after-after.result t (ap (λ v. v.transactors) c.self.view_is) here c.after-after.ensures e
