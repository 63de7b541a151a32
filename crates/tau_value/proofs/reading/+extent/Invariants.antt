use Rattle.std.proofs.Common.{◌≡◌, ◌+◌, ◌*◌, map, take}
use Rattle.tau_sexpr.specs.Form.{tree_of}
use Rattle.tau_sexpr.specs.Tree.{inside, size_of, size_of_all}
use Rattle.tau_value.specs.Meaning.{counted_all}
use Rattle.tau_value.specs.Numbers.{capped}
use Rattle.tau_value.specs.Sizes.{parts_of_all, levels_of_all}
use Rattle.tau_value.proofs.reading.+extent.Given as goal

abbrev pub decreases-extent_of : goal.decreases-extent_of
decreases-extent_of l = 2 * size_of (tree_of l.form.now)

abbrev pub decreases-extent_of_all : goal.decreases-extent_of_all
decreases-extent_of_all l = 2 * size_of_all (inside (map tree_of l.items.now)) + 1

abbrev pub invariant-extent_of_all-loop-item : goal.invariant-extent_of_all-loop-item
invariant-extent_of_all-loop-item l = record {
  parts : l.parts ≡ capped (parts_of_all (counted_all l.names l.bound (inside (map tree_of (take l.item-index l.items)))));
  levels : l.levels ≡ capped (levels_of_all (counted_all l.names l.bound (inside (map tree_of (take l.item-index l.items)))));
}
