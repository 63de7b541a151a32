use Rattle.std.proofs.Common.{◌<◌, length, map, take, arith, ap, append_assoc}
use Rattle.std.proofs.lemmas.List.{map_more}
use Rattle.std.proofs.lemmas.Result.{on_ok_weaker}
use Rattle.tau_value.specs.Sizes.{parts_of_all}
use Rattle.tau_value.specs.Val.{inside}
use Rattle.tau_value.specs.Value.{val_of}
use Rattle.tau_value.proofs.ValueLemmas.{parts-at}
use Rattle.tau_value.proofs.WrittenLemmas.{unit_bytes, name_bytes, list_bytes, numbers-push}
use Rattle.tau_forms.proofs.ValueTexts.{on_ok, rest-push, bytes-push}
use Rattle.tau_forms.proofs.values.+put.Goals as goal

pub put_value-returns-in-Unit-clause-bytes : goal.put_value-returns-in-Unit-clause-bytes
put_value-returns-in-Unit-clause-bytes t c = rw c.in-Unit.is (on_ok c.extend_from_slice.result unit_bytes)

pub put_value-returns-in-Name-clause-bytes : goal.put_value-returns-in-Name-clause-bytes
put_value-returns-in-Name-clause-bytes t c = rw c.in-Name.is (on_ok_weaker c.put_transactor.result (λ h. (name_bytes, (h, tt))) c.put_transactor.ensures.bytes)

pub put_value-returns-in-List-clause-bytes : goal.put_value-returns-in-List-clause-bytes
put_value-returns-in-List-clause-bytes t c = rw c.in-List.is (on_ok_weaker c.put_list.result (λ h. (list_bytes, h)) c.put_list.ensures.bytes)

pub put_list-put_value-requires : goal.put_list-put_value-requires
put_list-put_value-requires t c =
    let fs = c.items-item-items.result.now in
    let k = c.loop-item.item-index in
    let lt : k < length fs = omega arith in
    let smaller = parts-at fs k c.item-item.result lt c.item-item.is in
    let all = ap (λ vs. parts_of_all (inside vs)) c.items-item-items.ensures in
    (omega (arith, smaller, all), tt)

pub put_list-loop-item-preserved : goal.put_list-loop-item-preserved
put_list-loop-item-preserved t c =
    let fs = c.items-item-items.result.now in
    let k = c.loop-item.item-index in
    let lt : k < length fs = omega arith in
    let vs = map val_of (take k fs) in
    let v = val_of c.item-item.result in
    let more = map_more val_of fs k c.item-item.result lt in
    record {
      text = rw (c.in_ok-put_value.ensures.text, c.in_ok-push.ensures.items, c.loop-item.invariant.text, more, ← c.item-item.is, rest-push) (simp append_assoc);
      bytes = rw (more, ← c.item-item.is) (bytes-push c.args.names.now vs v c.loop-item.invariant.bytes c.in_ok-put_value.ensures.bytes);
      numbers = rw (more, ← c.item-item.is) (numbers-push vs v c.loop-item.invariant.numbers c.in_ok-put_value.ensures.numbers);
    }
