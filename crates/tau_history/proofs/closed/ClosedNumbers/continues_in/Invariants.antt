use Rattle.std.proofs.Common.{◌≡◌, take}
use Rattle.tau_history.proofs.closed.ClosedNumbers.continues_in.Given as goal

-- the numbers so far agree
abbrev pub invariant-loop-k : goal.invariant-loop-k
invariant-loop-k l = take l.k l.self.numbers ≡ take l.k l.later.numbers
