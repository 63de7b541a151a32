-- What is found on a disk, by what its records stand for.
use Rattle.std.proofs.Common.{◌≡◌, inl, inr, ℕ, ◌≤◌, List, [], ◌∷◌, length, Option, Some, None, IfSome, refl, sym, subst, arith}
use Rattle.std.specs.Prelude.{Result, Ok, Err, IfErr}
use Rattle.tau_tree.specs.declared.programs.Program.{Program}
use Rattle.tau_trace.specs.Run.{Run}
use Rattle.tau_legal.specs.Traces.{Legal}
use Rattle.tau_journal.specs.Records.{HasRecords}
use Rattle.tau_journal.specs.Found.{IsFault, IsFindNumber}
use Rattle.tau_journal.specs.Room.{most_bytes, IsFailure, IsFaultOrFailure}
use Rattle.tau_journal.specs.declared.errors.JournalError.{JournalError}
use Rattle.tau_journal.specs.declared.errors.JournalError.TheVariants.{Fault, DiskFault, NoMemory}
use Rattle.tau_journal.proofs.Unique.{one_list}
use Rattle.tau_revival.specs.Laws.{RevivalKeepsSteps}
use Rattle.tau_run_journal.specs.declared.faults.RecordFault.{RecordFault}
use Rattle.tau_run_journal.specs.declared.faults.RecordFault.TheVariants.{Item, ScriptFull}
use Rattle.tau_run_journal.specs.Standing.{StandsFor, Stands}
use Rattle.tau_run_journal.specs.Reading.{error_of}
use Rattle.tau_run_journal.proofs.Unique.{some_stand}
use Rattle.tau_run_journal.proofs.Once.{no_fault, no_program}
use Rattle.tau_run_journal.proofs.Finds.{no_bytes_fault, failed_or, recast}
use Rattle.tau_journaling.specs.Found.Faults.{IsRunFault, in_first, in_later, in_step, IsResumeFault, IsResumeNumber}
use Rattle.tau_journaling.proofs.Illegal.{none_first, first_read}

-- records that stand for a program and a legal run have no fault
none_of_records : RevivalKeepsSteps → (rs : List (List ℕ)) (P : Program) (T : Run) → StandsFor rs P T → Legal P T → (fault at : ℕ) → ¬ IsRunFault rs fault at
none_of_records law rs P T stand legal fault at (in_first x y lacks) = no_program rs P T None stand lacks
none_of_records law rs P T stand legal fault at (in_later Q U e same other one) = no_fault rs Q P U T e stand one
none_of_records law rs P T stand legal fault at (in_step Q U five is h) = none_first P T _ legal (first_read law rs P T None stand Q U h)

none_of_bytes : RevivalKeepsSteps → (file : List ℕ) (P : Program) (T : Run) → length file ≤ most_bytes → (s : Stands file P T) → Legal P T → (fault at : ℕ) → ¬ IsResumeFault file fault at
none_of_bytes law file P T fits s legal fault at (inl found) = no_bytes_fault file s.records s.are.0 s.are.1 (some_stand s.records P T s.stand) fits fault at found
none_of_bytes law file P T fits s legal fault at (inr (rs, le, are, found)) =
    none_of_records law rs P T (subst (λ (l : List (List ℕ)). StandsFor l P T) (one_list file s.records rs s.are.0 are.0 s.are.1 are.1) s.stand) legal fault at found

-- so that none is told of them
no_fault_told : {X : Type 0} (r : Result X JournalError) → ((fault at : ℕ) → r ≡ Err (Fault fault at) → ⊥) → IfErr r IsFailure
no_fault_told (Ok x) none = tt
no_fault_told (Err (Fault fault at)) none = none fault at refl
no_fault_told (Err DiskFault) none = tt
no_fault_told (Err NoMemory) none = tt

pub found_told : {X : Type 0} → RevivalKeepsSteps → (r : Result X JournalError) (told : Option (List ℕ)) → ((fault at : ℕ) → r ≡ Err (Fault fault at) → IfSome told (λ file. IsResumeFault file fault at))
    → IfSome told (λ file. (P : Program) (T : Run) → length file ≤ most_bytes → Stands file P T → Legal P T → IfErr r IsFailure)
found_told law r None fault = tt
found_told law r (Some file) fault = λ P T fits stands legal. no_fault_told r (λ f a is. none_of_bytes law file P T fits stands legal f a (fault f a is))

-- a fault of the bytes, or of their records
pub bytes_fault : (told : Option (List ℕ)) (fault at : ℕ) → IfSome told (λ file. IsFault file fault at) → IfSome told (λ file. IsResumeFault file fault at)
bytes_fault None fault at found = tt
bytes_fault (Some file) fault at found = inl found

pub records_fault : (told : Option (List ℕ)) (rs : List (List ℕ)) (gate : ℕ) → IfSome told (λ f. HasRecords rs gate f) → IfSome told (λ f. length f ≤ most_bytes) → (fault at : ℕ) → IsRunFault rs fault at → IfSome told (λ file. IsResumeFault file fault at)
records_fault None rs gate has small fault at found = tt
records_fault (Some file) rs gate has small fault at found = inr (rs, small, (gate, has), found)

-- records with a fault are some
some_faulty : (rs : List (List ℕ)) (fault at : ℕ) → IsRunFault rs fault at → 1 ≤ length rs
some_faulty [] fault at (in_first x y lacks) = absurd (let h = lacks.is_first in cc)
some_faulty [] fault at (in_later P T (Item k) same legal one) = absurd (let h = one.1.next in cc)
some_faulty [] fault at (in_later P T (ScriptFull n) same legal one) = absurd (let h = one.1.next in cc)
some_faulty [] fault at (in_step P T five is h) = absurd (let none = h.stand.next in cc)
some_faulty (r ∷ rs) fault at is = omega arith

-- the fault of bytes whose reading failed
module _ {X : Type 0} (r : Result X JournalError) (e : JournalError) (is : r ≡ Err e) where
  failed_faulty : (Y : Type 0) (file : List ℕ) → ((fault at : ℕ) → e ≡ Fault fault at → IsFault file fault at) → ((fault at : ℕ) → IsFault file fault at → IsFaultOrFailure {X = Y} fault at (Err e))
      → (fault at : ℕ) → IsResumeFault file fault at → IsFaultOrFailure fault at r
  failed_faulty Y file fault faulty f a (inl found) = subst (λ q. IsFaultOrFailure f a q) (sym is) (recast {X = X} {Y = Y} f a e (faulty f a found))
  failed_faulty Y file fault faulty f a (inr (rs, fits, are, found)) =
      subst (λ q. IsFaultOrFailure f a q) (sym is)
      (failed_or r e is (λ d. IsFaultOrFailure {X = X} f a (Err d)) (inr (inl refl)) (inr (inr refl)) (λ g b same. absurd (no_bytes_fault file rs are.0 are.1 (some_faulty rs f a found) fits g b (fault g b same))))

  pub bytes_faulty : (Y : Type 0) (told : Option (List ℕ)) → ((fault at : ℕ) → e ≡ Fault fault at → IfSome told (λ file. IsFault file fault at))
      → IfSome told (λ file. (fault at : ℕ) → IsFault file fault at → IsFaultOrFailure {X = Y} fault at (Err e))
      → IfSome told (λ file. (fault at : ℕ) → IsResumeFault file fault at → IsFaultOrFailure fault at r)
  bytes_faulty Y None fault faulty = tt
  bytes_faulty Y (Some file) fault faulty = failed_faulty Y file fault faulty

-- the fault of bytes whose records were found
module _ {X : Type 0} (r : Result X JournalError) where
  told_faulty : (file : List ℕ) (rs : List (List ℕ)) (gate : ℕ) → HasRecords rs gate file → length file ≤ most_bytes → 1 ≤ length rs → ((fault at : ℕ) → IsRunFault rs fault at → IsFaultOrFailure fault at r)
      → (fault at : ℕ) → IsResumeFault file fault at → IsFaultOrFailure fault at r
  told_faulty file rs gate has small some faulty fault at (inl found) = absurd (no_bytes_fault file rs gate has some small fault at found)
  told_faulty file rs gate has small some faulty fault at (inr (qs, le, are, found)) = faulty fault at (subst (λ (l : List (List ℕ)). IsRunFault l fault at) (one_list file qs rs are.0 gate are.1 has) found)

  pub records_faulty : (told : Option (List ℕ)) (rs : List (List ℕ)) (gate : ℕ) → IfSome told (λ f. HasRecords rs gate f) → IfSome told (λ f. length f ≤ most_bytes) → 1 ≤ length rs → ((fault at : ℕ) → IsRunFault rs fault at → IsFaultOrFailure fault at r)
      → IfSome told (λ file. (fault at : ℕ) → IsResumeFault file fault at → IsFaultOrFailure fault at r)
  records_faulty None rs gate has small some faulty = tt
  records_faulty (Some file) rs gate has small some faulty = told_faulty file rs gate has small some faulty

-- which faults are told
pub bytes_number : (fault : ℕ) → IsFindNumber fault → IsResumeNumber fault
bytes_number fault (inl one) = inl (omega (arith, one), omega (arith, one))
bytes_number fault (inr (inl two)) = inl (omega (arith, two), omega (arith, two))
bytes_number fault (inr (inr eight)) = inr eight

later_number : (e : RecordFault) (fault at : ℕ) → error_of e ≡ Fault fault at → IsResumeNumber fault
later_number (Item k) fault at same = let four : 4 ≡ fault = cc in inl (omega (arith, four), omega (arith, four))
later_number (ScriptFull n) fault at same = let six : 6 ≡ fault = cc in inl (omega (arith, six), omega (arith, six))

pub run_number : (rs : List (List ℕ)) (fault at : ℕ) → IsRunFault rs fault at → IsResumeNumber fault
run_number rs fault at (in_first three zero lacks) = inl (omega (arith, three), omega (arith, three))
run_number rs fault at (in_later P T e same legal one) = later_number e fault at same
run_number rs fault at (in_step P T five place h) = inl (omega (arith, five), omega (arith, five))
