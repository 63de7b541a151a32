use Rattle.std.proofs.Common.{◌≡◌, ℕ, length, Option, Some, None}
use Rattle.std.specs.Prelude.{slice_get}
use Rattle.tau_scene.specs.declared.notes.keeping.Kept.{Kept}
use Rattle.tau_scene.proofs.notes.keeping.none_kept.Given as goal

abbrev pub invariant-loop-rank : goal.invariant-loop-rank
invariant-loop-rank l = record {
  count : length l.kept.items ≡ l._rank;
  none : (rank : ℕ) (o : Option Kept) → slice_get l.kept.items rank ≡ Some o → o ≡ None;
}
