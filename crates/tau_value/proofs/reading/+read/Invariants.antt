use Rattle.std.proofs.Common.{◌≡◌, ◌+◌, ◌*◌, map, take, None}
use Rattle.tau_sexpr.specs.Form.{tree_of}
use Rattle.tau_sexpr.specs.Tree.{inside, size_of, size_of_all}
use Rattle.tau_value.specs.Val as val
use Rattle.tau_value.specs.Meaning.{counted_all}
use Rattle.tau_value.specs.Numbers.{capped}
use Rattle.tau_value.specs.Inner.Reading.{scan_all}
use Rattle.tau_value.proofs.reading.+read.Given as goal

abbrev pub decreases-read : goal.decreases-read
decreases-read l = 2 * size_of (tree_of l.form.now)

abbrev pub decreases-read_all : goal.decreases-read_all
decreases-read_all l = 2 * size_of_all (inside (map tree_of l.items.now)) + 1

abbrev pub invariant-read_all-loop-item : goal.invariant-read_all-loop-item
invariant-read_all-loop-item l = record {
  clean : scan_all l.names l.bound (inside (map tree_of (take l.item-index l.items))) ≡ None;
  told : val.inside l.values ≡ counted_all l.names l.bound (inside (map tree_of (take l.item-index l.items)));
  passed : l.node ≡ capped (l.initial.node + size_of_all (inside (map tree_of (take l.item-index l.items))));
}
