use Rattle.std.proofs.Common.{◌≡◌, ◌≤◌, List, [], ◌∷◌, length, map, arith, subst}
use Rattle.tau_tree.specs.Code.{Code, inside}
use Rattle.tau_tree.specs.Expr.{code_of}
use Rattle.tau_tree.specs.declared.expressions.Expr.{Expr}
use Rattle.tau_eval.specs.Arguments.{IsOtherNumber}
use Rattle.tau_eval.proofs.arguments.arguments_of.Goals as goal

other_number : (es : List Expr) → 3 ≤ length es → IsOtherNumber (inside (map code_of es))
other_number [] many = absurd (omega arith)
other_number (d ∷ []) many = absurd (omega arith)
other_number (d ∷ e ∷ []) many = absurd (omega arith)
other_number (d ∷ e ∷ f ∷ es) many = tt

pub returns-in-len3-up : goal.returns-in-len3-up
returns-in-len3-up c =
    let IsOther : List Code → Type 0 = λ cs. IsOtherNumber (inside cs) in
    subst IsOther c.items.ensures (other_number c.items.result.now (omega arith))
