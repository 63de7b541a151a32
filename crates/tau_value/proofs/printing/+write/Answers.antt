use Rattle.std.proofs.Common.{◌≡◌, ◌<◌, length, map, take, arith, ap, ◌∙◌, refl}
use Rattle.std.proofs.lemmas.List.{map_more, map-append, take_all}
use Rattle.tau_value.specs.Sizes.{parts_of_all}
use Rattle.tau_value.specs.Val.{inside}
use Rattle.tau_value.specs.Value.{val_of}
use Rattle.tau_value.proofs.ValueLemmas.{parts-at}
use Rattle.tau_value.proofs.WrittenLemmas.{unit_bytes, true_bytes, false_bytes, list_bytes, written_all-inside, numbers-push}
use Rattle.tau_value.proofs.printing.+write.Goals as goal

pub write-form_of_word-requires : goal.write-form_of_word-requires
write-form_of_word-requires t c = unit_bytes

pub write-form_of_word-requires-in-Truth-true : goal.write-form_of_word-requires-in-Truth-true
write-form_of_word-requires-in-Truth-true t c = true_bytes

pub write-form_of_word-requires-in-Truth-false : goal.write-form_of_word-requires-in-Truth-false
write-form_of_word-requires-in-Truth-false t c = false_bytes

pub write_all-form_of_word-requires : goal.write_all-form_of_word-requires
write_all-form_of_word-requires t c = list_bytes

pub write_all-write-requires : goal.write_all-write-requires
write_all-write-requires t c =
    let fs = c.items-item-items.result.now in
    let k = c.loop-item.item-index in
    let lt : k < length fs = omega arith in
    let smaller = parts-at fs k c.item-item.result lt c.item-item.is in
    let all = ap (λ vs. parts_of_all (inside vs)) c.items-item-items.ensures in
    (omega (arith, smaller, all), tt)

pub write_all-loop-item-preserved : goal.write_all-loop-item-preserved
write_all-loop-item-preserved t c =
    let fs = c.items-item-items.result.now in
    let k = c.loop-item.item-index in
    let lt : k < length fs = omega arith in
    let more = map_more val_of fs k c.item-item.result lt in
    record {
      forms = rw (c.in_ok-add-2.ensures.ok, c.loop-item.invariant.forms, more, ← c.item-item.is, map-append, c.in_ok-write.ensures.form) refl;
      numbers = rw (more, ← c.item-item.is) (numbers-push (map val_of (take k fs)) (val_of c.item-item.result) c.loop-item.invariant.numbers c.in_ok-write.ensures.numbers);
    }

pub write_all-returns-clause-form : goal.write_all-returns-clause-form
write_all-returns-clause-form t c =
    let fs = c.items-item-items.result.now in
    let all : map val_of (take c.loop-item.item-index fs) ≡ c.args.items.now = ap (map val_of) (take_all c.loop-item.item-index fs (omega arith)) ∙ c.items-item-items.ensures in
    rw (c.loop-item.invariant.forms, all, written_all-inside) refl
