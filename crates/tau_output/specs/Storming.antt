-- What the command `storm` writes (docs/formats.md, "Storm").
use Rattle.std.specs.Prelude.{◌≡◌, ◌≤◌, ◌<◌, ◌↔◌, ◌∷◌, ℕ, List, [], Some, slice_get, length, All, Contains}
use Rattle.tau_sexpr.specs.Printing.{printed}
use Rattle.tau_tree.specs.declared.programs.Program.{Program}
use Rattle.tau_tree.specs.Sound.{Sound, behaviour_names}
use Rattle.tau_forms.specs.Printed as forms
use Rattle.tau_text.specs.Meaning.{IsProgram}
use Rattle.tau_command.specs.declared.storms.StormNumbers.{StormNumbers}
use Rattle.tau_command.specs.declared.storms.Question.{Question}
use Rattle.tau_command.specs.declared.storms.Question.TheVariants.{Outcomes, Claim, Show}
use Rattle.tau_faults.specs.declared.setting.Setting.{Setting}
use Rattle.tau_faults.specs.Ends.{End as RunEnd, IsEnd}
use Rattle.tau_faults.specs.Laws.{IsProgramOf, IsRunOf}
use Rattle.tau_storm.specs.declared.outcomes.Outcome.{Outcome}
use Rattle.tau_storm.specs.declared.totals.Totals.{Totals}
use Rattle.tau_storm.specs.Seeds.{seed_from, AreEndsOfSeeds}
use Rattle.tau_storm.specs.Outcomes.{HasLines, IsSimplest, AreTotals}
use Rattle.tau_storm.specs.Order.{AreOrdered}
use Rattle.tau_storm.specs.Lines.{totals_form, storm_text}
use Rattle.tau_storm.specs.Claims.{Holds, AreBroken}
use Rattle.tau_output.specs.declared.outputs.End.{End}
use Rattle.tau_output.specs.declared.outputs.End.TheVariants.{Done, Claimed}
use Rattle.tau_output.specs.Runs.{IsDecided, RunsAs}

-- how the runs are made, and which faults come
abbrev pub setting_of : StormNumbers → Setting
setting_of n = record { jobs = n.jobs; steps = n.steps; every = n.every; faults = record { fails = n.fails; losses = n.losses; repeats = n.repeats } }

-- an end of the storm of a program with one of the seeds
pub record IsEndOfSeeds (numbers : StormNumbers) (P : Program) (e : RunEnd) : Type 0 where
  pub number : ℕ
  pub within : number < numbers.seeds
  pub seed : e.seed ≡ seed_from numbers.seed number
  pub is_end : IsEnd P (setting_of numbers) e

-- the run of an end is a run as every other, and so is its program but for its script: the run is legal, complete or of as many steps as
-- the limit, safe, and decided by what was heard
pub record IsRunOfStorm (numbers : StormNumbers) (P : Program) (e : RunEnd) : Type 0 where
  pub program : IsProgramOf P e
  pub run : IsRunOf numbers.steps e
  pub decided : IsDecided e.run

-- for an input of these bytes the storm has these ends
pub record HasEnds (numbers : StormNumbers) (bytes : List ℕ) : Type 0 where
  -- there is a program, which is the one that the bytes spell
  pub program : Program
  pub spelled : IsProgram bytes program
  -- it is sound
  pub sound : Sound program
  -- there is a list of ends: seed by seed, those of the program and of each with so many faults more, in order
  pub ends : List RunEnd
  pub are : AreEndsOfSeeds (setting_of numbers) program numbers.seed numbers.seeds ends
  -- these are all the ends with these seeds
  pub all : (e : RunEnd) → Contains ends e ↔ IsEndOfSeeds numbers program e
  -- and each of their runs is a run as every other
  pub runs : All (IsRunOfStorm numbers program) ends

-- and these outcomes, each once, in order
pub record HasOutcomes (numbers : StormNumbers) (bytes : List ℕ) : Type 0 where
  pub storm : HasEnds numbers bytes
  pub outcomes : List Outcome
  pub outcomes_are : AreOrdered storm.ends outcomes
  pub totals : Totals
  pub totals_are : AreTotals storm.ends totals

-- the text is the run text of an end
pub record IsTextOf (steps : ℕ) (e : RunEnd) (text : List ℕ) : Type 0 where
  pub end : End
  pub runs : RunsAs steps (printed (forms.printed e.program)) end text
  pub program : runs.program ≡ e.program
  pub run : runs.run ≡ e.run

-- which outcomes there are: the text tells the totals, and each outcome with its lines
pub record TellsOutcomes (numbers : StormNumbers) (bytes : List ℕ) (end : End) (text : List ℕ) : Type 0 where
  pub has : HasOutcomes numbers bytes
  pub is_text : text ≡ storm_text numbers.seeds has.totals has.outcomes
  pub ends : end ≡ Done

-- the run text of the simplest run with an outcome
pub record ShowsOutcome (numbers : StormNumbers) (outcome : ℕ) (bytes : List ℕ) (end : End) (text : List ℕ) : Type 0 where
  pub has : HasOutcomes numbers bytes
  pub shown : Outcome
  pub stands : slice_get has.outcomes outcome ≡ Some shown
  pub simplest : RunEnd
  pub is_simplest : IsSimplest (HasLines shown.lines) has.storm.ends simplest
  pub is_text : IsTextOf numbers.steps simplest text
  pub ends : end ≡ Done

-- the claim holds at each end, and the text tells the totals alone
pub record IsKept (seeds behaviour : ℕ) (ends : List RunEnd) (outcomes : List Outcome) (totals : Totals) (text : List ℕ) : Type 0 where
  pub holds : All (Holds behaviour) ends
  pub is_text : text ≡ printed (totals_form seeds totals (length outcomes) ∷ [])

-- the claim is broken at some ends, and the text is the run text of the simplest with the first of their outcomes
pub record IsBroken (steps behaviour : ℕ) (ends : List RunEnd) (text : List ℕ) : Type 0 where
  pub broken : List RunEnd
  pub broken_are : AreBroken behaviour ends broken
  pub first : Outcome
  pub others : List Outcome
  pub outcomes_are : AreOrdered broken (first ∷ others)
  pub simplest : RunEnd
  pub is_simplest : IsSimplest (HasLines first.lines) broken simplest
  pub is_text : IsTextOf steps simplest text

abbrev pub IsClaimEnd : StormNumbers → ℕ → List RunEnd → List Outcome → Totals → End → List ℕ → Type 0
IsClaimEnd numbers behaviour ends outcomes totals Done text = IsKept numbers.seeds behaviour ends outcomes totals text
IsClaimEnd numbers behaviour ends outcomes totals Claimed text = IsBroken numbers.steps behaviour ends text
IsClaimEnd numbers behaviour ends outcomes totals end text = ⊥

-- whether a behaviour of the program holds as a claim at each end
pub record TriesClaim (numbers : StormNumbers) (name bytes : List ℕ) (end : End) (text : List ℕ) : Type 0 where
  pub has : HasOutcomes numbers bytes
  pub behaviour : ℕ
  pub named : slice_get (behaviour_names has.storm.program) behaviour ≡ Some name
  pub tried : IsClaimEnd numbers behaviour has.storm.ends has.outcomes has.totals end text

-- for an input of these bytes `storm` writes this text and ends so
abbrev pub StormsAs : StormNumbers → Question → List ℕ → End → List ℕ → Type 0
StormsAs numbers Outcomes bytes end text = TellsOutcomes numbers bytes end text
StormsAs numbers (Claim name) bytes end text = TriesClaim numbers name bytes end text
StormsAs numbers (Show outcome) bytes end text = ShowsOutcome numbers outcome bytes end text

-- the storm has no outcome of this number
pub record LacksOutcome (numbers : StormNumbers) (outcome : ℕ) (bytes : List ℕ) : Type 0 where
  pub has : HasOutcomes numbers bytes
  pub none : length has.outcomes ≤ outcome
