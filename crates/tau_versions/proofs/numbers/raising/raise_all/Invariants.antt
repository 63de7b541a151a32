use Rattle.std.proofs.Common.{◌≡◌, max, length}
use Rattle.std.specs.Vec.{vec_capacity}
use Rattle.tau_versions.proofs.Raised.{Raised}
use Rattle.tau_versions.proofs.numbers.raising.raise_all.Given as goal

-- the numbers are raised to the other list's so far
abbrev pub invariant-loop-who : goal.invariant-loop-who
invariant-loop-who l = record {
  raised : Raised l.fn.own.items l.others l.who l.own.items;
  count : length l.own.items ≡ max (length l.fn.own.items) l.who;
  room : vec_capacity l.own ≡ vec_capacity l.fn.own;
}
