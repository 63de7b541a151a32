use Rattle.std.proofs.Common.{◌≡◌, ℕ, ◌<◌, ◌≤◌, ◌+◌, ◌++◌, List, length, take, filter, get_or, ap, ◌∙◌, arith}
use Rattle.tau_mailbox.specs.declared.letter.Letter.{Letter}
use Rattle.tau_mailbox.specs.Letters.{WithRoom, is_to, IsAscending}
use Rattle.tau_mailbox.specs.Order.{all_of, IsBlockOf}
use Rattle.tau_mailbox.proofs.Blocks.{count-in-block, count-in-tail, length-before}
use Rattle.tau_mailbox.proofs.Lists.{length-filter-le}
use Rattle.tau_mailbox.proofs.order.Order.count_to.Goals as goal

-- the letters of the blocks before the place and of the one there
in-block : (m : ℕ) (bs cs ds es : List WithRoom) (tail : List Letter) (k before here : ℕ) (b : WithRoom) → IsAscending (all_of bs ++ tail) → IsBlockOf m cs k → cs ≡ bs → ds ≡ bs → es ≡ bs → k < length es → b ≡ get_or es k b
    → before ≡ length (all_of (take k ds)) → here ≡ length (filter (is_to m) b.letters) → before + here ≡ length (filter (is_to m) (all_of bs ++ tail))
in-block m bs cs ds es tail k before here b up at ec ed ee lt is e f =
    let at' : IsBlockOf m bs k = rw ec at at in
    let lt' : k < length bs = rw ee at lt in
    let is' : b ≡ get_or bs k b = rw ee at is in
    let e' : before ≡ length (all_of (take k bs)) = rw ed at e in
    let f' : here ≡ length (filter (is_to m) (get_or bs k b).letters) = f ∙ ap (λ (c : WithRoom). length (filter (is_to m) c.letters)) is' in
    omega (arith, count-in-block m bs tail k b up at' lt', e', f')

-- the letters of all blocks and of the tail
in-tail : (m : ℕ) (bs cs ds es : List WithRoom) (tail : List Letter) (k before here : ℕ) → IsBlockOf m cs k → cs ≡ bs → ds ≡ bs → es ≡ bs → length es ≤ k
    → before ≡ length (all_of (take k ds)) → here ≡ length (filter (is_to m) tail) → before + here ≡ length (filter (is_to m) (all_of bs ++ tail))
in-tail m bs cs ds es tail k before here at ec ed ee far e f =
    let at' : IsBlockOf m bs k = rw ec at at in
    let far' : length bs ≤ k = rw ee at far in
    let e' : before ≡ length (all_of (take k bs)) = rw ed at e in
    omega (arith, count-in-tail m bs tail k at' far', e', f)

pub total_len-before-requires : goal.total_len-before-requires
total_len-before-requires c = rw c.deref-2.ensures.value (omega (arith, length-before c.self.inside.blocks.items c.self.inside.tail.letters c.block_of-place.result, c.self.invariant.counted))

pub overflow_add-result : goal.overflow_add-result
overflow_add-result c =
    let e = in-block c.args.message c.self.inside.blocks.items _ _ _ c.self.inside.tail.letters c.block_of-place.result c.total_len-before.result c.count_to.result c.in-Some.block.now c.self.invariant.ascending c.block_of-place.ensures c.deref.ensures.value c.deref-2.ensures.value c.deref-3.ensures.value c.in-Some.ensures.lookup.3.0 c.in-Some.ensures.lookup.1 c.total_len-before.ensures c.count_to.ensures in
    omega (arith, e, length-filter-le (is_to c.args.message) (all_of c.self.inside.blocks.items ++ c.self.inside.tail.letters), c.self.invariant.counted)

pub overflow_add-result-in-None : goal.overflow_add-result-in-None
overflow_add-result-in-None c =
    let e = in-tail c.args.message c.self.inside.blocks.items _ _ _ c.self.inside.tail.letters c.block_of-place.result c.total_len-before.result c.count_to-in-None.result c.block_of-place.ensures c.deref.ensures.value c.deref-2.ensures.value c.deref-3.ensures.value c.in-None.ensures.lookup.3 c.total_len-before.ensures c.count_to-in-None.ensures in
    omega (arith, e, length-filter-le (is_to c.args.message) (all_of c.self.inside.blocks.items ++ c.self.inside.tail.letters), c.self.invariant.counted)

pub returns-in-Some : goal.returns-in-Some
returns-in-Some c =
    rw (← c.self.view_is)
    (in-block c.args.message c.self.inside.blocks.items _ _ _ c.self.inside.tail.letters c.block_of-place.result c.total_len-before.result c.count_to.result c.in-Some.block.now c.self.invariant.ascending c.block_of-place.ensures c.deref.ensures.value c.deref-2.ensures.value c.deref-3.ensures.value c.in-Some.ensures.lookup.3.0 c.in-Some.ensures.lookup.1 c.total_len-before.ensures c.count_to.ensures)

pub returns-in-None : goal.returns-in-None
returns-in-None c =
    rw (← c.self.view_is)
    (in-tail c.args.message c.self.inside.blocks.items _ _ _ c.self.inside.tail.letters c.block_of-place.result c.total_len-before.result c.count_to-in-None.result c.block_of-place.ensures c.deref.ensures.value c.deref-2.ensures.value c.deref-3.ensures.value c.in-None.ensures.lookup.3 c.total_len-before.ensures c.count_to-in-None.ensures)
