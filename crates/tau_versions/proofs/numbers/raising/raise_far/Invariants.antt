use Rattle.std.proofs.Common.{◌≡◌, ◌≤◌, ℕ, max, length, get_or}
use Rattle.std.specs.Vec.{vec_capacity}
use Rattle.tau_versions.proofs.numbers.raising.raise_far.Given as goal

-- zeros fill the list up to the place
abbrev pub invariant-loop-place : goal.invariant-loop-place
invariant-loop-place l = record {
  same : (u : ℕ) → get_or l.own.items u 0 ≡ get_or l.fn.own.items u 0;
  count : length l.own.items ≡ l.place;
  first : length l.fn.own.items ≤ l.place;
  last : l.place ≤ max (length l.fn.own.items) l.who;
  room : vec_capacity l.own ≡ vec_capacity l.fn.own;
}
