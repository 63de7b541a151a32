use Rattle.std.proofs.Common.{◌≡◌, ◌++◌, List, length}
use Rattle.tau_faults.specs.Ends.{End}
use Rattle.tau_storm.specs.declared.outcomes.Outcome.{Outcome}
use Rattle.tau_storm.specs.Outcomes.{AreOutcomes}
use Rattle.tau_storm.specs.Inner.Counting.{outcomes_of}
use Rattle.tau_storm.proofs.Tables.{AreJoined}
use Rattle.tau_storm.proofs.told.add_told.Given as goal

-- those behind the ones that are left were added
abbrev pub invariant-loop-outcome : goal.invariant-loop-outcome
invariant-loop-outcome l = record {
  done : List Outcome;
  is : l.left.items ++ done ≡ l.fn.outcomes;
  joined : (front back : List End) → AreOutcomes front (outcomes_of l.fn.rows.entries) → AreOutcomes back l.fn.outcomes → AreJoined front back done (outcomes_of l.rows.entries);
}

abbrev pub decreases-loop-outcome : goal.decreases-loop-outcome
decreases-loop-outcome l = length l.left.items
