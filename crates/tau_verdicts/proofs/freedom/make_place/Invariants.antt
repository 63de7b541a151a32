use Rattle.std.proofs.Common.{◌≡◌, ◌+◌, ◌-◌, ℕ, length}
use Rattle.tau_verdicts.specs.Doomed.{flag_of}
use Rattle.tau_verdicts.proofs.freedom.make_place.Given as goal

-- the flags so far are those that were there, and lowered ones
abbrev pub invariant-more : goal.invariant-more
invariant-more l = (u : ℕ) → flag_of l.flags.items u ≡ flag_of l.fn.flags.items u

abbrev pub decreases-more : goal.decreases-more
decreases-more l = l.who + 1 - length l.flags.items
