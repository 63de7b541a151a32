use Rattle.std.proofs.Common.{◌≡◌, ℕ, ◌<◌, map, get_or}
use Rattle.tau_tree.proofs.scopes.Scope.has.Given as goal

abbrev pub invariant-loop-bound : goal.invariant-loop-bound
invariant-loop-bound l = (k : ℕ) → k < l.bound-index → get_or (map (λ w. w.now) l.bound-items) k l.name ≡ l.name → ⊥
