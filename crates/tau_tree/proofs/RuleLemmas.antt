-- The rules for one expression, where it holds a list.
use Rattle.std.proofs.Common.{◌≡◌, ◌↔◌, ℕ, ◌<◌, Bool, true, false, IsTrue, not, nat_eq, List, [], ◌∷◌, length, refl, sym, ap, ◌∙◌, subst, arith}
use Rattle.std.proofs.lemmas.Bool.{false≢true}
use Rattle.std.proofs.lemmas.Bool.Decides.{nat_tests}
use Rattle.tau_tree.specs.Code.{Code, seq, apply, inside}
use Rattle.tau_tree.specs.Expr.{code_of, codes_of}
use Rattle.tau_tree.specs.Parts.{arity, count_of}
use Rattle.tau_tree.specs.Checks.{KeepsRules}
use Rattle.tau_tree.specs.declared.expressions.Operation.{Operation}
use Rattle.tau_tree.specs.declared.expressions.Expr.{Expr}
use Rattle.tau_tree.specs.declared.expressions.Exprs.{Exprs}
use Rattle.tau_tree.specs.declared.expressions.Expr.TheVariants as exprs
use Rattle.tau_tree.proofs.ExprLemmas.{code_of-Seq, code_of-Apply}

pub count_of-inside : (cs : List Code) → count_of (inside cs) ≡ length cs
count_of-inside [] = refl
count_of-inside (c ∷ cs) = omega (arith, count_of-inside cs)

filled : (cs : List Code) (b : Bool) → (IsTrue b ↔ (cs ≡ [])) → IsTrue (not b) ↔ (0 < count_of (inside cs))
filled [] true t = (λ h. absurd (false≢true h), λ h. absurd (omega arith))
filled [] false t = (λ h. absurd (false≢true (t.1 refl)), λ h. refl)
filled (c ∷ cs) true t = (λ h. omega arith, λ h. cc (t.0 refl))
filled (c ∷ cs) false t = (λ h. omega arith, λ h. refl)

pub rules_of_seq : (n m : ℕ) (x : Expr) (es : Exprs) (b : Bool) → x ≡ exprs.Seq es → (IsTrue b ↔ (codes_of es ≡ [])) → IsTrue (not b) ↔ KeepsRules n m (code_of x)
rules_of_seq n m x es b e test =
    let items = filled (codes_of es) b test in
    let at : IsTrue (not b) ↔ KeepsRules n m (seq (inside (codes_of es))) = (
      λ h. record {
        names = tt;
        start = tt;
        behaviour = tt;
        arity = tt;
        item = items.0 h;
        two_names = tt;
        short_text = tt;
      },
      λ h. items.1 h.item,
    ) in
    subst (λ c. IsTrue (not b) ↔ KeepsRules n m c) (sym (ap code_of e ∙ code_of-Seq es)) at

pub rules_of_apply : (n m : ℕ) (x : Expr) (p : Operation) (es : Exprs) (len wanted : ℕ) → x ≡ exprs.Apply p es → len ≡ length (codes_of es) → wanted ≡ arity p → IsTrue (nat_eq len wanted) ↔ KeepsRules n m (code_of x)
rules_of_apply n m x p es len wanted e here there =
    let count = count_of-inside (codes_of es) in
    let at : IsTrue (nat_eq len wanted) ↔ KeepsRules n m (apply p (inside (codes_of es))) = (
      λ h. record {
        names = tt;
        start = tt;
        behaviour = tt;
        arity = grind (arith, nat_tests);
        item = tt;
        two_names = tt;
        short_text = tt;
      },
      λ h. let equal = h.arity in grind (arith, nat_tests),
    ) in
    subst (λ c. IsTrue (nat_eq len wanted) ↔ KeepsRules n m c) (sym (ap code_of e ∙ code_of-Apply p es)) at
