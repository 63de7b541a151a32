use Rattle.std.proofs.Common.{◌<◌, length, arith}
use Rattle.std.proofs.lemmas.List.{map_more}
use Rattle.tau_sexpr.specs.Form.{tree_of}
use Rattle.tau_value.proofs.ReadingLemmas.{size-at, counted_parts-push, counted_levels-push}
use Rattle.tau_value.proofs.reading.+extent.Goals as goal

pub extent_of_all-extent_of-extent-requires : goal.extent_of_all-extent_of-extent-requires
extent_of_all-extent_of-extent-requires t c =
    let fs = c.args.items.now in
    let k = c.loop-item.item-index in
    let lt : k < length fs = omega arith in
    (omega (arith, size-at fs k c.item-item.result lt c.item-item.is), c.requires)

pub extent_of_all-loop-item-preserved : goal.extent_of_all-loop-item-preserved
extent_of_all-loop-item-preserved t c =
    let fs = c.args.items.now in
    let k = c.loop-item.item-index in
    let lt : k < length fs = omega arith in
    let more = map_more tree_of fs k c.item-item.result lt in
    record {
      parts = rw (more, counted_parts-push, ← c.item-item.is) (omega arith);
      levels = rw (more, counted_levels-push, ← c.item-item.is) (omega arith);
    }
