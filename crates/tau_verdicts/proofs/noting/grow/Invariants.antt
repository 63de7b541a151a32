use Rattle.std.proofs.Common.{◌≡◌, ◌+◌, ◌-◌, ℕ, length}
use Rattle.tau_verdicts.specs.Doomed.{takers_of}
use Rattle.tau_verdicts.proofs.noting.grow.Given as goal

-- the lists so far are those that were there, and empty ones
abbrev pub invariant-more : goal.invariant-more
invariant-more l = (u : ℕ) → takers_of l.takers.items u ≡ takers_of l.fn.takers.items u

abbrev pub decreases-more : goal.decreases-more
decreases-more l = l.who + 1 - length l.takers.items
