-- What is left of a list in a loop over it.
use Rattle.std.proofs.Common.{◌≡◌, ℕ, ◌+◌, ◌<◌, ◌≤◌, List, [], ◌∷◌, length, get_or, drop, map, suc, add-one, sym, ap, ◌∙◌}
use Rattle.std.proofs.Math.Seq.{drop-cons}
use Rattle.std.proofs.lemmas.List.{drop_all}
use Rattle.tau_sexpr.specs.Form.{tree_of}
use Rattle.tau_sexpr.specs.Tree.{Trees, inside, more}
use Rattle.tau_sexpr.specs.declared.trees.Form.{Form}

-- the item at k is the first that is left there
pub drop_item : {X : Type 0} (xs : List X) (k : ℕ) (x : X) → k < length xs → x ≡ get_or xs k x → drop k xs ≡ x ∷ drop (k + 1) xs
drop_item xs k x lt is = rw add-one (drop-cons xs k x lt ∙ ap (λ y. y ∷ drop (suc k) xs) (sym is))

-- the forms that are left from the k-th on
abbrev pub left : List Form → ℕ → Trees
left fs k = inside (map tree_of (drop k fs))

pub left_item : (fs : List Form) (k : ℕ) (f : Form) → k < length fs → f ≡ get_or fs k f → left fs k ≡ more (tree_of f) (left fs (k + 1))
left_item fs k f lt is = ap (λ gs. inside (map tree_of gs)) (drop_item fs k f lt is)

pub left_all : (fs : List Form) (k : ℕ) → length fs ≤ k → left fs k ≡ inside []
left_all fs k le = ap (λ gs. inside (map tree_of gs)) (drop_all k fs le)
