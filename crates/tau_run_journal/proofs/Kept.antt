-- What stands on a disk once a step was kept, and in between.
use Rattle.std.proofs.Common.{◌≡◌, inl, inr, ℕ, List, [], ◌∷◌, ◌++◌, Option, Some, None, IfSome, refl, sym, subst}
use Rattle.tau_tree.specs.declared.programs.Program.{Program}
use Rattle.tau_trace.specs.declared.step.Step.{Step}
use Rattle.tau_trace.specs.Run.{Run, appended}
use Rattle.tau_journal.specs.Disk.Bytes.{Only}
use Rattle.tau_journal.specs.Disk.Moments.{LeavesOnly}
use Rattle.tau_journal.proofs.Moments.{started, weaker}
use Rattle.tau_journal.specs.Records.{IsAtRest, TellsRecords, IsBeforeOrAfter, going_on}
use Rattle.tau_journal.specs.Found.{IsBlank, IsBlankOrHas}
use Rattle.tau_journal.proofs.Appending.{at_first}
use Rattle.tau_revival.specs.Revival.{IsRevival}
use Rattle.tau_run_journal.specs.Standing.{IsProgramText, IsStepText, opened, StandsFor, begins, stepped, resumed, StandsAt, StandsForEither, IsBlankOrBegins}

-- one record more, and what it makes of program and run
module _ (P Q : Program) (T U : Run) (r : List ℕ) (more : (rs : List (List ℕ)) → StandsFor rs P T → StandsFor (rs ++ r ∷ []) Q U) where
  pub stands_then : (old new : Option (List ℕ)) (gate next : ℕ) → ((rs : List (List ℕ)) → TellsRecords old rs gate → TellsRecords new (rs ++ r ∷ []) next) → StandsAt old gate P T → StandsAt new next Q U
  stands_then old new gate next appends at = record {
    records = at.records ++ r ∷ [];
    told = appends at.records at.told;
    stand = more at.records at.stand;
  }

  either : (rs : List (List ℕ)) → StandsFor rs P T → (c : List ℕ) → IsBeforeOrAfter rs r c → StandsForEither P T Q U c
  either rs stand c (inl old) = inl (record { records = rs; are = old; stand = stand })
  either rs stand c (inr new) = inr (record { records = rs ++ r ∷ []; are = new; stand = more rs stand })

  pub leaves_either : {D : Type 0} (moment : D → ℕ) (left_since : D → ℕ → List ℕ → Type 0) (old new : D) (bytes : Option (List ℕ)) (gate : ℕ)
      → ((rs : List (List ℕ)) → TellsRecords bytes rs gate → LeavesOnly moment left_since old new (IsBeforeOrAfter rs r)) → StandsAt bytes gate P T
      → LeavesOnly moment left_since old new (StandsForEither P T Q U)
  leaves_either moment left_since old new bytes gate leaves at =
      weaker moment left_since old new (IsBeforeOrAfter at.records r) (StandsForEither P T Q U) (either at.records at.stand) (leaves at.records at.told)

-- a step's text
pub with_step : (P : Program) (T U : Run) (s : Step) (r : List ℕ) → U ≡ appended T s → IsStepText T s r → (rs : List (List ℕ)) → StandsFor rs P T → StandsFor (rs ++ r ∷ []) P U
with_step P T U s r last text rs stand = subst (λ (R : Run). StandsFor (rs ++ r ∷ []) P R) (sym last) (stepped stand text)

-- a mark
pub with_mark : (P Q : Program) (T : Run) → IsRevival P T Q → (rs : List (List ℕ)) → StandsFor rs P T → StandsFor (rs ++ going_on ∷ []) Q T
with_mark P Q T revival rs stand = resumed stand refl revival

-- before the first call
pub leaves_at_first : {D : Type 0} (images : D → List ℕ → Type 0) (moment : D → ℕ) (left_since : D → ℕ → List ℕ → Type 0) (only_now : (d : D) (c : List ℕ) → left_since d (moment d) c → images d c)
    (P Q : Program) (T U : Run) (d : D) (bytes : Option (List ℕ)) (gate : ℕ) → StandsAt bytes gate P T → IsAtRest bytes (images d) gate → LeavesOnly moment left_since d d (StandsForEither P T Q U)
leaves_at_first images moment left_since only_now P Q T U d bytes gate at rest =
    started moment left_since d (StandsForEither P T Q U)
    (λ c left. inl (record { records = at.records; are = at_first bytes (images d) gate at.records at.told rest c (only_now d c left); stand = at.stand }))

-- a program's text, as the one record
pub program_stands : (told new : Option (List ℕ)) (gate : ℕ) (P : Program) (text : List ℕ) → IsProgramText P text → IfSome told (λ _. TellsRecords new (text ∷ []) gate) → IfSome told (λ _. StandsAt new gate P (opened P))
program_stands None new gate P text is made = tt
program_stands (Some file) new gate P text is made = record { records = text ∷ []; told = made; stand = begins is }

-- what a crash leaves while a journal of a program is made
module _ {D : Type 0} (images : D → List ℕ → Type 0) (moment : D → ℕ) (left_since : D → ℕ → List ℕ → Type 0) (P : Program) where
  -- before the first call
  pub nothing_begun : ((d : D) (c : List ℕ) → left_since d (moment d) c → images d c) → (d : D) (told : Option (List ℕ))
      → IfSome told (λ file. IsBlank file → Only told (images d) → LeavesOnly moment left_since d d (IsBlankOrBegins P))
  nothing_begun only_now d None = tt
  nothing_begun only_now d (Some file) = λ blank only. started moment left_since d (IsBlankOrBegins P) (λ c left. inl (subst IsBlank (sym (only c (only_now d c left))) blank))

  begun : (text : List ℕ) → IsProgramText P text → (c : List ℕ) → IsBlankOrHas text c → IsBlankOrBegins P c
  begun text is c (inl blank) = inl blank
  begun text is c (inr are) = inr (text, is, are)

  -- by the record that is its text
  pub program_begins : (text : List ℕ) → IsProgramText P text → (old new : D) (told : Option (List ℕ))
      → IfSome told (λ file. IsBlank file → Only told (images old) → LeavesOnly moment left_since old new (IsBlankOrHas text))
      → IfSome told (λ file. IsBlank file → Only told (images old) → LeavesOnly moment left_since old new (IsBlankOrBegins P))
  program_begins text is old new None made = tt
  program_begins text is old new (Some file) made = λ blank only. weaker moment left_since old new (IsBlankOrHas text) (IsBlankOrBegins P) (begun text is) (made blank only)
