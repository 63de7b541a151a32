-- What is told of ends, and of the ends of several seeds.
use Rattle.std.specs.Prelude.{ℕ, List}
use Rattle.tau_tree.specs.declared.programs.Program.{Program}
use Rattle.tau_faults.specs.declared.setting.Setting.{Setting}
use Rattle.tau_faults.specs.Ends.{End}
use Rattle.tau_storm.specs.declared.storms.Told.{Told}
use Rattle.tau_storm.specs.Order.{AreOrdered}
use Rattle.tau_storm.specs.Outcomes.{AreTotals}
use Rattle.tau_storm.specs.Seeds.{AreEndsOfSeeds}

-- the outcomes, in order, and the totals are those of the ends
abbrev pub TellsEnds : List End → Told → Type 0
TellsEnds ends t = AreOrdered ends t.outcomes × AreTotals ends t.totals

-- what it is to tell of ends, it tells of the ends of so many seeds from this one on
pub record TellsSeeds {V : Type 0} (Tells : List End → V → Type 0) (S : Setting) (O : Program) (seed n : ℕ) (v : V) : Type 0 where
  pub ends : List End
  pub are : AreEndsOfSeeds S O seed n ends
  pub tells : Tells ends v
