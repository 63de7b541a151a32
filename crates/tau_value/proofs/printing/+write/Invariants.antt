use Rattle.std.proofs.Common.{◌≡◌, ◌+◌, ◌*◌, ◌∷◌, map, take}
use Rattle.tau_sexpr.specs.Tree.{word}
use Rattle.tau_value.specs.Meaning.{list_word}
use Rattle.tau_value.specs.Sizes.{parts_of, parts_of_all}
use Rattle.tau_value.specs.Val.{inside}
use Rattle.tau_value.specs.Value.{val_of}
use Rattle.tau_value.specs.Written.{written, AllNumbersFit}
use Rattle.tau_value.proofs.printing.+write.Given as goal

abbrev pub decreases-write : goal.decreases-write
decreases-write l = 2 * parts_of (val_of l.value.now)

abbrev pub decreases-write_all : goal.decreases-write_all
decreases-write_all l = 2 * parts_of_all (inside l.items.now) + 1

abbrev pub invariant-write_all-loop-item : goal.invariant-write_all-loop-item
invariant-write_all-loop-item l = record {
  forms : l.forms ≡ word list_word ∷ map (written l.names) (map val_of (take l.item-index l.item-items));
  numbers : AllNumbersFit (inside (map val_of (take l.item-index l.item-items)));
}
