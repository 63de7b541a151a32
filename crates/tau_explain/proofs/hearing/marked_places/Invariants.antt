use Rattle.std.proofs.Common.{◌<◌, ◌↔◌, ℕ}
use Rattle.std.specs.Prelude.{Contains}
use Rattle.std.specs.List.{AllPairs}
use Rattle.tau_explain.specs.Inner.Hearing.{IsMarked}
use Rattle.tau_explain.proofs.hearing.marked_places.Given as goal

abbrev pub invariant-loop-place : goal.invariant-loop-place
invariant-loop-place l = AllPairs (λ a b. a < b) l.places.items × ((j : ℕ) → Contains l.places.items j ↔ ((j < l.place) × IsMarked l.marks j))
