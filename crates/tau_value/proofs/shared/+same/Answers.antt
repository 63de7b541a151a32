use Rattle.std.proofs.Common.{◌≡◌, ◌<◌, map, get_or, length, arith, sym, ap, ◌∙◌}
use Rattle.std.proofs.lemmas.List.{length-map}
use Rattle.tau_value.specs.Val.{inside}
use Rattle.tau_value.specs.Sizes.{parts_of_all}
use Rattle.tau_value.specs.Value.{val_of}
use Rattle.tau_value.proofs.ValueLemmas.{same_lists, same_at, parts-at}
use Rattle.tau_value.proofs.shared.+same.Goals as goal

pub Value::same-returns-in-List-List : goal.Value::same-returns-in-List-List
Value::same-returns-in-List-List t c = same_lists _ _ _ _ _ c.in-List-List.is-0 c.in-List-List.is-1 c.same-in-List-List.ensures

pub Values::same-same-requires : goal.Values::same-same-requires
Values::same-same-requires t c =
    let one = c.items-item-items.result.now in
    let in_one : c.loop-k.k < length one = omega arith in
    let first : c.item-item.result ≡ get_or one c.loop-k.k c.item-item.result = cc in
    let smaller = parts-at one c.loop-k.k c.item-item.result in_one first in
    let all = ap (λ vs. parts_of_all (inside vs)) c.items-item-items.ensures in
    (omega (arith, smaller, all), tt)

pub Values::same-returns-then-not-same : goal.Values::same-returns-then-not-same
Values::same-returns-then-not-same t c = (
  λ h. cc,
  λ h. let one = c.items-item-items.result.now in
      let two = c.items-others.result.now in
      let equal : map val_of one ≡ map val_of two = c.items-item-items.ensures ∙ h ∙ sym c.items-others.ensures in
      let in_one : c.loop-k.k < length one = omega arith in
      let in_two : c.loop-k.k < length two = omega (arith, simp length-map at (ap length equal)) in
      let first : c.item-item.result ≡ get_or one c.loop-k.k c.item-item.result = cc in
      let second : c.index-others-k.result ≡ get_or two c.loop-k.k c.index-others-k.result = cc in
      sym c.if-not-same.true ∙ c.same.ensures.1 (same_at one two c.loop-k.k c.item-item.result c.index-others-k.result equal in_one in_two first second),
)
