-- Laws of outcomes, each the contract of a function of the crate.
use Rattle.std.specs.Prelude.{◌≡◌, ◌+◌, ◌++◌, ℕ, List}
use Rattle.tau_tree.specs.declared.programs.Program.{Program}
use Rattle.tau_trace.specs.Run.{Run}
use Rattle.tau_faults.specs.declared.setting.Setting.{Setting}
use Rattle.tau_faults.specs.Ends.{End}
use Rattle.tau_storm.specs.declared.outcomes.Outcome.{Outcome}
use Rattle.tau_storm.specs.Outcomes.{EndsWithLines}
use Rattle.tau_storm.specs.Order.{AreOrdered}
use Rattle.tau_storm.specs.Seeds.{seed_from, AreEndsOfSeeds}

-- a run ends by the same lines always
abbrev pub LinesAreUnique : Type 0
LinesAreUnique = (P : Program) (T : Run) (lines others : List ℕ) → EndsWithLines P T lines → EndsWithLines P T others → lines ≡ others

-- ends have one list of outcomes
abbrev pub OutcomesAreUnique : Type 0
OutcomesAreUnique = (ends : List End) (outcomes others : List Outcome) → AreOrdered ends outcomes → AreOrdered ends others → outcomes ≡ others

-- the ends of seeds, and of those that follow on them, are the ends of them all
abbrev pub SeedsFollowOn : Type 0
SeedsFollowOn = (S : Setting) (O : Program) (seed n m : ℕ) (before behind : List End) → AreEndsOfSeeds S O seed n before → AreEndsOfSeeds S O (seed_from seed n) m behind → AreEndsOfSeeds S O seed (n + m) (before ++ behind)
