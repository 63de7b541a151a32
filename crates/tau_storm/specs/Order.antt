-- The order in which outcomes are written (docs/formats.md, "Storm").
use Rattle.std.specs.Prelude.{◌≡◌, ◌<◌, ◌∷◌, ℕ, List, []}
use Rattle.std.specs.List.{AllPairs}
use Rattle.tau_faults.specs.Ends.{End}
use Rattle.tau_storm.specs.declared.outcomes.Outcome.{Outcome}
use Rattle.tau_storm.specs.Outcomes.{AreOutcomes}

-- the first bytes come before the others: these go on with them, or the first have a lesser byte at the first place at which
-- they differ
pub data AreBytesBefore : List ℕ → List ℕ → Type 0 where
  ends : {b : ℕ} {bs : List ℕ} → AreBytesBefore [] (b ∷ bs)
  lesser : {a b : ℕ} {xs ys : List ℕ} → a < b → AreBytesBefore (a ∷ xs) (b ∷ ys)
  goes_on : {b : ℕ} {xs ys : List ℕ} → AreBytesBefore xs ys → AreBytesBefore (b ∷ xs) (b ∷ ys)

-- by the faults of the simplest run, then its steps, then the bytes of the lines
pub data ComesBefore (a b : Outcome) : Type 0 where
  by_faults : a.faults < b.faults → ComesBefore a b
  by_steps : a.faults ≡ b.faults → a.steps < b.steps → ComesBefore a b
  by_lines : a.faults ≡ b.faults → a.steps ≡ b.steps → AreBytesBefore a.lines b.lines → ComesBefore a b

-- the outcomes of the ends, in order
pub record AreOrdered (ends : List End) (outcomes : List Outcome) : Type 0 where
  pub are : AreOutcomes ends outcomes
  pub ordered : AllPairs ComesBefore outcomes
