use Rattle.std.proofs.Common.{◌≡◌, ℕ, ◌<◌, false, map, Some}
use Rattle.std.specs.Prelude.{slice_get}
use Rattle.tau_sexpr.specs.Form.{tree_of}
use Rattle.tau_sexpr.specs.Tree.{Tree}
use Rattle.tau_text.specs.Parts.{is_mark}
use Rattle.tau_text.proofs.marks.place_of_mark.Given as goal

abbrev pub invariant-loop-place : goal.invariant-loop-place
invariant-loop-place l = (k : ℕ) (t : Tree) → k < l.place → slice_get (map tree_of l.forms) k ≡ Some t → is_mark l.word t ≡ false
