-- What a storm over several seeds comes to (docs/definitions.md, "Storm").
use Rattle.std.specs.Prelude.{ℕ, List, Option}
use Rattle.tau_tree.specs.declared.programs.Program.{Program}
use Rattle.tau_faults.specs.declared.setting.Setting.{Setting}
use Rattle.tau_faults.specs.Ends.{End}
use Rattle.tau_storm.specs.declared.outcomes.Outcome.{Outcome}
use Rattle.tau_storm.specs.declared.totals.Totals.{Totals}
use Rattle.tau_storm.specs.Order.{AreOrdered}
use Rattle.tau_storm.specs.Outcomes.{AreTotals}
use Rattle.tau_storm.specs.Seeds.{AreEndsOfSeeds}
use Rattle.tau_storm.specs.Claims.{IsTried}

-- the outcomes and the totals are those of the ends of so many seeds
pub record HasOutcomes (S : Setting) (O : Program) (seed seeds : ℕ) (outcomes : List Outcome) (totals : Totals) : Type 0 where
  pub ends : List End
  pub are : AreEndsOfSeeds S O seed seeds ends
  pub outcomes_are : AreOrdered ends outcomes
  pub totals_are : AreTotals ends totals

-- and a behaviour was tried as a claim at these ends
pub record HasTried (S : Setting) (O : Program) (seed seeds behaviour : ℕ) (outcomes : List Outcome) (totals : Totals) (first : Option Outcome) : Type 0 where
  pub ends : List End
  pub are : AreEndsOfSeeds S O seed seeds ends
  pub outcomes_are : AreOrdered ends outcomes
  pub totals_are : AreTotals ends totals
  pub tried : IsTried behaviour ends first
