-- Equality of forms, by variants and by items.
use Rattle.std.proofs.Common.{◌≡◌, ◌↔◌, ℕ, ◌+◌, ◌<◌, Bool, IsTrue, List, length, map, take, get_or, arith, sym, ap, ◌∙◌}
use Rattle.std.proofs.lemmas.List.{get_or-map, map_more}
use Rattle.tau_sexpr.specs.Tree.{Tree, Trees, list, inside, items_of, items_of-inside, size_of, sizes, sizes-append, size_of_all-inside}
use Rattle.tau_sexpr.specs.Form.{tree_of}
use Rattle.tau_sexpr.specs.declared.trees.Form.{Form}
use Rattle.tau_sexpr.specs.declared.trees.Form.TheVariants as forms

pub inside_inj : (xs ys : List Tree) → inside xs ≡ inside ys → xs ≡ ys
inside_inj xs ys e = sym (items_of-inside xs) ∙ ap items_of e ∙ items_of-inside ys

list_inj : (xs ys : Trees) → list xs ≡ list ys → xs ≡ ys
list_inj xs ys e = cc

-- a test of the items of two lists tests the lists
pub same_lists : (x y : Form) (xs ys : List Tree) (b : Bool) → x ≡ forms.List xs → y ≡ forms.List ys → (IsTrue b ↔ (xs ≡ ys)) → IsTrue b ↔ (tree_of x ≡ tree_of y)
same_lists x y xs ys b ex ey test =
    let there : tree_of x ≡ list (inside xs) = ap tree_of ex in
    let other : tree_of y ≡ list (inside ys) = ap tree_of ey in (
      λ h. there ∙ ap (λ zs. list (inside zs)) (test.0 h) ∙ sym other,
      λ h. test.1 (inside_inj xs ys (list_inj (inside xs) (inside ys) (sym there ∙ h ∙ other))),
    )

-- a list's nodes are itself and those of its items
pub size_of_list : (x : Form) (ts : List Tree) → x ≡ forms.List ts → size_of (tree_of x) ≡ sizes ts + 1
size_of_list x ts e = ap (λ y. size_of (tree_of y)) e ∙ omega (arith, size_of_all-inside ts)

-- one form more
pub sizes_more : (fs : List Form) (k : ℕ) (f : Form) → k < length fs → f ≡ get_or fs k f → sizes (map tree_of (take (k + 1) fs)) ≡ sizes (map tree_of (take k fs)) + size_of (tree_of f)
sizes_more fs k f lt is =
    let last : tree_of (get_or fs k f) ≡ tree_of f = ap tree_of (sym is) in
    rw (map_more tree_of fs k f lt, sizes-append, last) (omega arith)

-- equal lists are equal at each place
pub same_at : (fs gs : List Form) (k : ℕ) (f g : Form) → map tree_of fs ≡ map tree_of gs → k < length fs → k < length gs → f ≡ get_or fs k f → g ≡ get_or gs k g → tree_of f ≡ tree_of g
same_at fs gs k f g e lf lg ef eg =
    ap tree_of ef ∙ sym (get_or-map tree_of fs k f (tree_of f) lf) ∙ ap (λ ts. get_or ts k (tree_of f)) e ∙ get_or-map tree_of gs k g (tree_of f) lg ∙ sym (ap tree_of eg)
