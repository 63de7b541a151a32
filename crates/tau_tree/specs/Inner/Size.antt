-- How many expressions an expression holds: a measure for what goes down an expression by its list of parts.
use Rattle.std.specs.Prelude.{◌≡◌, ℕ, ◌+◌, ◌<◌, ◌≤◌, List, [], ◌∷◌, length, map, slice_index_or}
use Rattle.std.proofs.Common.{zero, suc, arith, ap}
use Rattle.tau_tree.specs.declared.expressions.Expr.{Expr}
use Rattle.tau_tree.specs.Code.{Code, unit, truth, int, text, msg, own, var, start, list, let_in, if_else, seq, fold, apply, get, set, send, new, stabilize, checkpoint, rollback, dependent, Codes, none, more, inside}
use Rattle.tau_tree.specs.Expr.{code_of}

-- itself and all its parts
abbrev mutual
  pub size_of : Code → ℕ
  size_of unit = 1
  size_of (truth b) = 1
  size_of (int z) = 1
  size_of (text t) = 1
  size_of msg = 1
  size_of own = 1
  size_of (var x) = 1
  size_of (start n) = 1
  size_of (list cs) = 1 + size_of_all cs
  size_of (let_in x v b) = 1 + size_of v + size_of b
  size_of (if_else t y n) = 1 + size_of t + size_of y + size_of n
  size_of (seq cs) = 1 + size_of_all cs
  size_of (fold l f s i b) = 1 + size_of l + size_of f + size_of b
  size_of (apply p cs) = 1 + size_of_all cs
  size_of get = 1
  size_of (set v) = 1 + size_of v
  size_of (send t v) = 1 + size_of t + size_of v
  size_of (new b n s) = 1 + size_of n + size_of s
  size_of stabilize = 1
  size_of checkpoint = 1
  size_of rollback = 1
  size_of dependent = 1

  pub size_of_all : Codes → ℕ
  size_of_all none = 0
  size_of_all (more c cs) = size_of c + size_of_all cs

-- a list is as large as each of its items
pub size-at : (es : List Expr) (k : ℕ) (e : Expr) → k < length es → e ≡ slice_index_or es k e → size_of (code_of e) ≤ size_of_all (inside (map code_of es))
size-at [] k e lt is = absurd (omega arith)
size-at (d ∷ ds) zero e lt is = omega (arith, ap (λ x. size_of (code_of x)) is)
size-at (d ∷ ds) (suc k) e lt is = omega (arith, size-at ds k e (omega arith) is)
