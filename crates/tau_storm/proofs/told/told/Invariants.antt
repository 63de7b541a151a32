use Rattle.std.proofs.Common.{◌++◌, IsPermutation, length}
use Rattle.tau_storm.specs.Inner.Counting.{outcomes_of}
use Rattle.tau_storm.proofs.told.told.Given as goal

abbrev pub invariant-loop-lines : goal.invariant-loop-lines
invariant-loop-lines l = IsPermutation (outcomes_of l.fn.rows.entries) (outcomes_of l.rows.entries ++ l.outcomes.items)

abbrev pub decreases-loop-lines : goal.decreases-loop-lines
decreases-loop-lines l = length l.rows.entries
