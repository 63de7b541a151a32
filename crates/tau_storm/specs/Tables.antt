-- What a table tells of the ends that it was shown.
use Rattle.std.specs.Prelude.{List}
use Rattle.tau_faults.specs.Ends.{End}
use Rattle.tau_storm.specs.declared.outcomes.Outcome.{Outcome}
use Rattle.tau_storm.specs.declared.totals.Totals.{Totals}
use Rattle.tau_storm.specs.Outcomes.{AreOutcomes, AreTotals}

-- outcomes in the order in which they came first, and totals
pub record Tally : Type 0 where
  pub outcomes : List Outcome
  pub totals : Totals

-- those of the ends
pub record IsTable (ends : List End) (t : Tally) : Type 0 where
  pub outcomes : AreOutcomes ends t.outcomes
  pub totals : AreTotals ends t.totals
