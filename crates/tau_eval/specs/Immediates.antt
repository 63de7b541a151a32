-- Expressions whose evaluation needs no frame.
use Rattle.std.specs.Prelude.{◌≡◌, ℕ, ◌+◌, ◌≤◌, List}
use Rattle.tau_value.specs.Val.{Val}
use Rattle.tau_tree.specs.declared.expressions.Operation.{Operation}
use Rattle.tau_tree.specs.Code.{Code}
use Rattle.tau_eval.specs.Operations.{Answer, of_two}
use Rattle.tau_eval.specs.Outcome.{and_then, begun, gives, finished}
use Rattle.tau_eval.specs.Meaning.{Setting, Scope, meaning}

-- an expression without parts, whose value is this one
abbrev pub Reads : Code → Setting → Scope → Val → Type 0
Reads c s env v = (n : ℕ) (rs : List Val) → meaning c s env n rs ≡ begun n (λ m. gives v m rs)

-- an expression that comes to this answer after so many evaluations
abbrev pub Finishes : Code → Setting → Scope → ℕ → Answer → Type 0
Finishes c s env spent a = (n : ℕ) (rs : List Val) → n + spent ≤ 100000 → meaning c s env n rs ≡ finished a (n + spent) rs

-- an expression whose value comes after so many evaluations
abbrev pub Gives : Code → Setting → Scope → ℕ → Val → Type 0
Gives c s env spent v = (n : ℕ) (rs : List Val) → n + spent ≤ 100000 → meaning c s env n rs ≡ gives v (n + spent) rs

-- an expression that comes to what another one does after so many evaluations
abbrev pub GoesTo : Code → Setting → Scope → ℕ → Code → Type 0
GoesTo c s env spent d = (n : ℕ) (rs : List Val) → n + spent ≤ 100000 → meaning c s env n rs ≡ meaning d s env (n + spent) rs

-- an operation on this value and that of an expression, which comes to this answer after one evaluation
abbrev pub FinishesWith : Operation → Val → Code → Setting → Scope → Answer → Type 0
FinishesWith p v c s env a = (n : ℕ) (rs : List Val) → n + 1 ≤ 100000 → and_then (meaning c s env n rs) (λ w. finished (of_two p v w)) ≡ finished a (n + 1) rs
