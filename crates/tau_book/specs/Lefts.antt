-- What want of memory leaves of a hand (docs/rules.md, "Choice of a worker").
use Rattle.std.specs.Prelude.{◌≡◌, List, [], ◌∷◌}
use Rattle.tau_eval.specs.Turn.{TurnSoFar}
use Rattle.tau_book.specs.Hands.{Held}

-- the first jobs are some of the second, in the same order, and each that is left out is over
pub data ArePartOf (IsOver : TurnSoFar → Type 0) : List TurnSoFar → List TurnSoFar → Type 0 where
  none : ArePartOf IsOver [] []
  stays : {job : TurnSoFar} {part jobs : List TurnSoFar} → ArePartOf IsOver part jobs → ArePartOf IsOver (job ∷ part) (job ∷ jobs)
  left_out : {job : TurnSoFar} {part jobs : List TurnSoFar} → IsOver job → ArePartOf IsOver part jobs → ArePartOf IsOver part (job ∷ jobs)

-- the generator and the room are the same, and the jobs are the old ones in the same order, but for some that are over
pub record IsLeftOf (IsOver : TurnSoFar → Type 0) (old new : Held) : Type 0 where
  pub generator : new.generator ≡ old.generator
  pub size : new.size ≡ old.size
  pub jobs : ArePartOf IsOver new.jobs old.jobs
