-- Which forms are marks.
use Rattle.std.proofs.Common.{◌≡◌, ◌≢◌, ℕ, false, List, [], ◌∷◌, length, map, refl, ap}
use Rattle.tau_sexpr.specs.Form.{tree_of}
use Rattle.tau_sexpr.specs.Tree.{Tree, word, text, list, none, more, inside}
use Rattle.tau_sexpr.specs.declared.trees.Form.{Form}
use Rattle.tau_text.specs.RunText.{mark}
use Rattle.tau_text.specs.Parts.{is_mark}
use Rattle.tau_value.proofs.NameLemmas.{apart_bytes}

-- a list of another number of items than one is no mark
pub no_single : (w : List ℕ) (fs : List Form) → length fs ≢ 1 → is_mark w (list (inside (map tree_of fs))) ≡ false
no_single w [] n = refl
no_single w (x ∷ []) n = absurd (n refl)
no_single w (x ∷ y ∷ fs) n = other w (tree_of x) (tree_of y) (map tree_of fs)
  where
    other : (w : List ℕ) (t u : Tree) (ts : List Tree) → is_mark w (list (more t (more u (inside ts)))) ≡ false
    other w (word h) u ts = refl
    other w (text h) u ts = refl
    other w (list h) u ts = refl

-- a form that isn't the mark of a word
pub not_mark : (w : List ℕ) (t : Tree) → t ≢ mark w → is_mark w t ≡ false
not_mark w (list (more (word h) none)) n = apart_bytes h w (λ e. n (ap mark e))
not_mark w t n = refl
