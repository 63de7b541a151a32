use Rattle.std.proofs.Common.{◌≡◌, ◌+◌, ◌*◌, ◌++◌, map, take}
use Rattle.tau_value.specs.Sizes.{parts_of, parts_of_all}
use Rattle.tau_value.specs.Val.{inside}
use Rattle.tau_value.specs.Value.{val_of}
use Rattle.tau_scene.proofs.ValueTexts.{list_begun}
use Rattle.tau_scene.proofs.words.values.+put.Given as goal

abbrev pub decreases-put_value : goal.decreases-put_value
decreases-put_value l = 2 * parts_of (val_of l.value.now)

abbrev pub decreases-put_list : goal.decreases-put_list
decreases-put_list l = 2 * parts_of_all (inside l.items.now) + 1

abbrev pub invariant-put_list-loop-item : goal.invariant-put_list-loop-item
invariant-put_list-loop-item l = l.out.items ≡ l.fn.out.items ++ list_begun l.names (map val_of (take l.item-index l.item-items))
