-- Equality of expressions, by variants and by items.
use Rattle.std.proofs.Common.{◌≡◌, ◌↔◌, ℕ, ◌<◌, Bool, IsTrue, List, length, map, get_or, sym, ap, ◌∙◌}
use Rattle.std.proofs.lemmas.List.{get_or-map}
use Rattle.tau_tree.specs.Code.{Code, Codes, list, seq, apply, inside, items_of, items_of-inside}
use Rattle.tau_tree.specs.Expr.{code_of, codes_of}
use Rattle.tau_tree.specs.declared.expressions.Operation.{Operation}
use Rattle.tau_tree.specs.declared.expressions.Expr.{Expr}
use Rattle.tau_tree.specs.declared.expressions.Exprs.{Exprs}
use Rattle.tau_tree.specs.declared.expressions.Expr.TheVariants as exprs
use Rattle.tau_tree.proofs.ExprLemmas.{code_of-List, code_of-Seq, code_of-Apply}

pub inside_inj : (xs ys : List Code) → inside xs ≡ inside ys → xs ≡ ys
inside_inj xs ys e = sym (items_of-inside xs) ∙ ap items_of e ∙ items_of-inside ys

list_inj : (xs ys : Codes) → list xs ≡ list ys → xs ≡ ys
list_inj xs ys e = cc

seq_inj : (xs ys : Codes) → seq xs ≡ seq ys → xs ≡ ys
seq_inj xs ys e = cc

-- a test of the items of two expressions tests the expressions
pub same_by : (make : Codes → Code) → ((xs ys : Codes) → make xs ≡ make ys → xs ≡ ys) → (x y : Expr) (xs ys : List Code) (b : Bool) → code_of x ≡ make (inside xs) → code_of y ≡ make (inside ys) → (IsTrue b ↔ (xs ≡ ys)) → IsTrue b ↔ (code_of x ≡ code_of y)
same_by make inj x y xs ys b ex ey test = (
  λ h. ex ∙ ap (λ zs. make (inside zs)) (test.0 h) ∙ sym ey,
  λ h. test.1 (inside_inj xs ys (inj (inside xs) (inside ys) (sym ex ∙ h ∙ ey))),
)

pub same_lists : (x y : Expr) (xs ys : Exprs) (b : Bool) → x ≡ exprs.List xs → y ≡ exprs.List ys → (IsTrue b ↔ (codes_of xs ≡ codes_of ys)) → IsTrue b ↔ (code_of x ≡ code_of y)
same_lists x y xs ys b ex ey test =
    same_by list list_inj x y (codes_of xs) (codes_of ys) b (ap code_of ex ∙ code_of-List xs) (ap code_of ey ∙ code_of-List ys) test

pub same_seqs : (x y : Expr) (xs ys : Exprs) (b : Bool) → x ≡ exprs.Seq xs → y ≡ exprs.Seq ys → (IsTrue b ↔ (codes_of xs ≡ codes_of ys)) → IsTrue b ↔ (code_of x ≡ code_of y)
same_seqs x y xs ys b ex ey test =
    same_by seq seq_inj x y (codes_of xs) (codes_of ys) b (ap code_of ex ∙ code_of-Seq xs) (ap code_of ey ∙ code_of-Seq ys) test

apply_inj : (p : Operation) (xs ys : Codes) → apply p xs ≡ apply p ys → xs ≡ ys
apply_inj p xs ys e = cc

pub same_applies : (x y : Expr) (p q : Operation) (xs ys : Exprs) (b : Bool) → x ≡ exprs.Apply p xs → y ≡ exprs.Apply q ys → p ≡ q → (IsTrue b ↔ (codes_of xs ≡ codes_of ys)) → IsTrue b ↔ (code_of x ≡ code_of y)
same_applies x y p q xs ys b ex ey e test =
    let there : code_of y ≡ apply p (inside (codes_of ys)) = ap code_of ey ∙ code_of-Apply q ys ∙ ap (λ r. apply r (inside (codes_of ys))) (sym e) in
    same_by (apply p) (apply_inj p) x y (codes_of xs) (codes_of ys) b (ap code_of ex ∙ code_of-Apply p xs) there test

-- equal lists are equal at each place
pub same_at : (fs gs : List Expr) (k : ℕ) (f g : Expr) → map code_of fs ≡ map code_of gs → k < length fs → k < length gs → f ≡ get_or fs k f → g ≡ get_or gs k g → code_of f ≡ code_of g
same_at fs gs k f g e lf lg ef eg =
    ap code_of ef ∙ sym (get_or-map code_of fs k f (code_of f) lf) ∙ ap (λ ts. get_or ts k (code_of f)) e ∙ get_or-map code_of gs k g (code_of f) lg ∙ sym (ap code_of eg)
