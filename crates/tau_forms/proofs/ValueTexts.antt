-- The texts that are put of values.
use Rattle.std.proofs.Common.{◌≡◌, ℕ, List, [], ◌∷◌, ◌++◌, map, Result, Ok, Err, OnOk, refl, sym, ap, ◌∙◌, subst}
use Rattle.std.proofs.lemmas.List.{map-append}
use Rattle.tau_sexpr.specs.Tree.{Tree, word, text, list, inside-items_of, items_of, depth_of, HasWords}
use Rattle.tau_sexpr.specs.Form.{tree_of}
use Rattle.tau_sexpr.specs.Printing.{print_of, print_rest, HasBytes, AllHaveBytes}
use Rattle.tau_sexpr.specs.declared.trees.Form.{Form}
use Rattle.tau_sexpr.specs.declared.trees.Form.TheVariants as forms
use Rattle.tau_value.specs.Names.{AreNames}
use Rattle.tau_value.specs.Val.{Val}
use Rattle.tau_value.specs.Val as val
use Rattle.tau_value.specs.Written.{written, written_all, NumbersFit, IsWritten}
use Rattle.tau_value.proofs.WrittenLemmas.{written_all-inside, reads_back, depth_from, words_from}
use Rattle.tau_forms.proofs.LineTexts.{rest-more, bytes-more}

-- what holds anyway holds of an answer
pub on_ok : {A E P : Type 0} (r : Result A E) → P → OnOk r P
on_ok (Ok x) p = p
on_ok (Err e) p = tt

-- one item more
pub rest-push : (names : List (List ℕ)) (vs : List Val) (v : Val) → print_rest (written_all names (val.inside (vs ++ v ∷ []))) ≡ print_rest (written_all names (val.inside vs)) ++ 32 ∷ print_of (written names v)
rest-push names vs v =
    rw (written_all-inside names (vs ++ v ∷ []), map-append (written names) vs (v ∷ []), written_all-inside names vs) (rest-more (map (written names) vs) (written names v))

pub bytes-push : (names : List (List ℕ)) (vs : List Val) (v : Val) → AllHaveBytes (written_all names (val.inside vs)) → HasBytes (written names v) → AllHaveBytes (written_all names (val.inside (vs ++ v ∷ [])))
bytes-push names vs v h g =
    rw (written_all-inside names (vs ++ v ∷ []), map-append (written names) vs (v ∷ [])) (bytes-more (map (written names) vs) (written names v) (subst AllHaveBytes (written_all-inside names vs) h) g)

-- each tree is that of a form of the program
form_at : Tree → Form
form_at (word w) = forms.Word w
form_at (text t) = forms.Text t
form_at (list ts) = forms.List (items_of ts)

tree_of-form_at : (t : Tree) → tree_of (form_at t) ≡ t
unfolding form_at
tree_of-form_at (word w) = refl
tree_of-form_at (text t) = refl
tree_of-form_at (list ts) = ap list (inside-items_of ts)

-- what is written of a value whose numbers fit their types is read back
pub is_written : (names : List (List ℕ)) (v : Val) → AreNames names → NumbersFit v → IsWritten names v
is_written names v are fit =
    let t = written names v in
    let same = tree_of-form_at t in
    record {
      read_back = reads_back names v are fit;
      depth = sym (ap depth_of same) ∙ depth_from names v (Ok (form_at t)) same;
      words = subst HasWords same (words_from names v (Ok (form_at t)) are same fit);
    }
