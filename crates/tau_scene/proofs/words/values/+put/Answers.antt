use Rattle.std.proofs.Common.{◌<◌, length, ap, arith}
use Rattle.tau_value.specs.Sizes.{parts_of_all}
use Rattle.tau_value.specs.Val.{inside}
use Rattle.tau_value.proofs.ValueLemmas.{parts-at}
use Rattle.tau_scene.proofs.ValueTexts.{list_more, list_done}
use Rattle.tau_scene.proofs.words.values.+put.Goals as goal

pub put_list-put_value-requires : goal.put_list-put_value-requires
put_list-put_value-requires t c =
    let fs = c.items-item-items.result.now in
    let k = c.loop-item.item-index in
    let lt : k < length fs = omega arith in
    let smaller = parts-at fs k c.item-item.result lt c.item-item.is in
    let all = ap (λ vs. parts_of_all (inside vs)) c.items-item-items.ensures in
    (omega (arith, smaller, all), tt)

pub put_list-loop-item-preserved : goal.put_list-loop-item-preserved
put_list-loop-item-preserved t c =
    let fs = c.items-item-items.result.now in
    let k = c.loop-item.item-index in
    let lt : k < length fs = omega arith in
    list_more c.args.names.now fs k c.item-item.result c.args.out.now.items c.loop-item.out.items c.push.new.self.items c.put_value.new.out.items lt c.item-item.is c.loop-item.invariant c.in_ok-push.ensures.items c.in_ok-put_value.ensures

pub put_list-returns : goal.put_list-returns
put_list-returns t c =
    list_done c.args.names.now c.items-item-items.result.now c.args.items.now c.loop-item.item-index c.args.out.now.items c.loop-item.out.items c.push-2.new.self.items (omega arith) c.items-item-items.ensures c.loop-item.invariant c.in_ok-push-2.ensures.items
