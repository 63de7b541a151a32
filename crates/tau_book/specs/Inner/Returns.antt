-- Jobs of some turns.
use Rattle.std.specs.Prelude.{◌==◌, ℕ, List, IsTrue, All}
use Rattle.std.specs.List.{list_any}
use Rattle.tau_eval.specs.Turn.{TurnSoFar}

-- each job is of one of the turns from these places
abbrev pub AreOfTurns : List ℕ → List TurnSoFar → Type 0
AreOfTurns places jobs = All (λ j. IsTrue (list_any (λ p. p == j.place) places)) jobs
