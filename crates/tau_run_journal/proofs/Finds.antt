-- What is found on a disk, by what is read of its records.
use Rattle.std.proofs.Common.{◌≡◌, ◌⊎◌, inl, inr, ⊎_elim, ℕ, ◌<◌, ◌≤◌, List, [], ◌∷◌, ◌++◌, length, Option, Some, None, IfSome, refl, sym, ap, ap₂, ◌∙◌, subst, arith, length-append}
use Rattle.std.specs.Prelude.{get_or, Result, Ok, Err, IfErr, ⊤}
use Rattle.std.specs.Int.{w32, to_le_bytes}
use Rattle.tau_tree.specs.declared.programs.Program.{Program}
use Rattle.tau_trace.specs.Run.{Run}
use Rattle.tau_journal.specs.Records.{written, HasRecords}
use Rattle.tau_journal.specs.Found.{IsBlank, IsFault, IsFindNumber as IsFirstNumber}
use Rattle.tau_journal.specs.Room.{most_bytes, IsFailure, IsFaultOrFailure}
use Rattle.tau_journal.specs.declared.errors.JournalError.{JournalError}
use Rattle.tau_journal.specs.declared.errors.JournalError.TheVariants.{Fault, DiskFault, NoMemory}
use Rattle.tau_journal.proofs.Unique.{one_list}
use Rattle.tau_journal.proofs.Reading as reading
use Rattle.tau_run_journal.specs.declared.faults.RecordFault.{RecordFault}
use Rattle.tau_run_journal.specs.declared.faults.RecordFault.TheVariants.{Item, ScriptFull}
use Rattle.tau_run_journal.specs.Standing.{StandsFor, Stands, StandsAt}
use Rattle.tau_run_journal.specs.Reading.{HasNoProgram, IsReadAs, error_of, IsRecordsFault, in_first, in_later, IsFindFault, IsFindNumber}
use Rattle.tau_run_journal.proofs.Unique.{some_stand}
use Rattle.tau_run_journal.proofs.Once.{one_fault, no_fault, no_program}

-- bytes with a record aren't blank
not_blank : (file : List ℕ) (rs : List (List ℕ)) (gate : ℕ) → HasRecords rs gate file → 1 ≤ length rs → ¬ IsBlank file
not_blank file [] gate has some blank = omega (arith, some)
not_blank file (r ∷ rs) gate has some (inl few) =
    omega (arith, few, ap length has.file_is, length-append (written (r ∷ rs)) (has.shut ∷ has.rest), length-append (to_le_bytes w32 (length r)) (r ++ written rs))
not_blank file (r ∷ rs) gate has some (inr shut) = shut (ap (λ (l : List ℕ). get_or l 0 0) has.file_is)

-- they have none of the faults of bytes
pub no_bytes_fault : (file : List ℕ) (rs : List (List ℕ)) (gate : ℕ) → HasRecords rs gate file → 1 ≤ length rs → length file ≤ most_bytes → (fault at : ℕ) → ¬ IsFault file fault at
no_bytes_fault file rs gate has some fits fault at found = reading.no_fault file fault at fits (not_blank file rs gate has some) rs gate has found

-- records with a fault are some
some_faulty : (rs : List (List ℕ)) (fault at : ℕ) → IsRecordsFault rs fault at → 1 ≤ length rs
some_faulty [] fault at (in_first f a lacks) = absurd (let h = lacks.is_first in cc)
some_faulty [] fault at (in_later P T (Item k) e one) = absurd (let h = one.1.next in cc)
some_faulty [] fault at (in_later P T (ScriptFull n) e one) = absurd (let h = one.1.next in cc)
some_faulty (r ∷ rs) fault at is = omega arith

-- what was found stands
pub stands_told : (told : Option (List ℕ)) (rs : List (List ℕ)) (gate : ℕ) (P : Program) (T : Run) → IfSome told (λ f. HasRecords rs gate f) → StandsFor rs P T → IfSome told (λ _. StandsAt told gate P T)
stands_told None rs gate P T has stand = tt
stands_told (Some file) rs gate P T has stand = record { records = rs; told = record { file = file; told = refl; has = has }; stand = stand }

-- and isn't too large
small_or_not : (n : ℕ) → (n ≤ most_bytes) ⊎ (most_bytes < n)
small_or_not n = grind arith

pub no_failure : {X : Type 0} (x : X) (fault at : ℕ) → ¬ IsFaultOrFailure {X = X} fault at (Ok x)
no_failure x fault at (inl e) = cc
no_failure x fault at (inr (inl e)) = cc
no_failure x fault at (inr (inr e)) = cc

pub small_told : {X : Type 0} (x : X) (told : Option (List ℕ)) → IfSome told (λ file. (fault at : ℕ) → IsFault file fault at → IsFaultOrFailure {X = X} fault at (Ok x)) → IfSome told (λ file. length file ≤ most_bytes)
small_told x None faulty = tt
small_told x (Some file) faulty = ⊎_elim (λ le. le) (λ l. absurd (no_failure x 8 (length file) (faulty 8 (length file) (inl (refl, refl, l))))) (small_or_not (length file))

same_error : {X : Type 0} (d e : JournalError) → ◌≡◌ {A = Result X JournalError} (Err d) (Err e) → d ≡ e
same_error d e same = cc

-- an error is told the same of each answer
pub recast : {X Y : Type 0} (fault at : ℕ) (e : JournalError) → IsFaultOrFailure {X = Y} fault at (Err e) → IsFaultOrFailure {X = X} fault at (Err e)
recast {Y = Y} fault at e (inl same) = inl (ap Err (same_error {X = Y} e (Fault fault at) same))
recast {Y = Y} fault at e (inr (inl same)) = inr (inl (ap Err (same_error {X = Y} e DiskFault same)))
recast {Y = Y} fault at e (inr (inr same)) = inr (inr (ap Err (same_error {X = Y} e NoMemory same)))

-- the bytes have a fault, or their reading failed
module _ {X : Type 0} (r : Result X JournalError) (e : JournalError) (is : r ≡ Err e) where
  pub failed_or : (P : JournalError → Type 0) → P DiskFault → P NoMemory → ((fault at : ℕ) → e ≡ Fault fault at → P (Fault fault at)) → P e
  failed_or P disk memory faulted = by e refl where
    by : (d : JournalError) → e ≡ d → P e
    by (Fault fault at) same = subst P (sym same) (faulted fault at same)
    by DiskFault same = subst P (sym same) disk
    by NoMemory same = subst P (sym same) memory

  pub bytes_found : (told : Option (List ℕ)) → ((fault at : ℕ) → e ≡ Fault fault at → IfSome told (λ file. IsFault file fault at))
      → IfSome told (λ file. (P : Program) (T : Run) → length file ≤ most_bytes → Stands file P T → IfErr r IsFailure)
  bytes_found None fault = tt
  bytes_found (Some file) fault = λ P T fits stands.
      subst (λ q. IfErr q IsFailure) (sym is)
      (failed_or IsFailure tt tt (λ f a same. absurd (no_bytes_fault file stands.records stands.are.0 stands.are.1 (some_stand stands.records P T stands.stand) fits f a (fault f a same))))

  found_faulty : (Y : Type 0) (file : List ℕ) → ((fault at : ℕ) → e ≡ Fault fault at → IsFault file fault at) → ((fault at : ℕ) → IsFault file fault at → IsFaultOrFailure {X = Y} fault at (Err e))
      → (fault at : ℕ) → IsFindFault file fault at → IsFaultOrFailure fault at r
  found_faulty Y file fault faulty f a (inl found) = subst (λ q. IsFaultOrFailure f a q) (sym is) (recast {X = X} {Y = Y} f a e (faulty f a found))
  found_faulty Y file fault faulty f a (inr (rs, fits, are, found)) =
      subst (λ q. IsFaultOrFailure f a q) (sym is)
      (failed_or (λ d. IsFaultOrFailure {X = X} f a (Err d)) (inr (inl refl)) (inr (inr refl)) (λ g b same. absurd (no_bytes_fault file rs are.0 are.1 (some_faulty rs f a found) fits g b (fault g b same))))

  pub bytes_faulty : (Y : Type 0) (told : Option (List ℕ)) → ((fault at : ℕ) → e ≡ Fault fault at → IfSome told (λ file. IsFault file fault at))
      → IfSome told (λ file. (fault at : ℕ) → IsFault file fault at → IsFaultOrFailure {X = Y} fault at (Err e))
      → IfSome told (λ file. (fault at : ℕ) → IsFindFault file fault at → IsFaultOrFailure fault at r)
  bytes_faulty Y None fault faulty = tt
  bytes_faulty Y (Some file) fault faulty = found_faulty Y file fault faulty

pub bytes_fault : (told : Option (List ℕ)) (fault at : ℕ) → IfSome told (λ file. IsFault file fault at) → IfSome told (λ file. IsFindFault file fault at)
bytes_fault None fault at found = tt
bytes_fault (Some file) fault at found = inl found

-- where nothing is wrong, nothing is claimed
pub nothing_told : (told : Option (List ℕ)) → IfSome told (λ file. (P : Program) (T : Run) → length file ≤ most_bytes → Stands file P T → ⊤)
nothing_told None = tt
nothing_told (Some file) = λ P T fits stands. tt

-- the bytes have records
pub records_fault : (told : Option (List ℕ)) (rs : List (List ℕ)) (gate : ℕ) → IfSome told (λ f. HasRecords rs gate f) → IfSome told (λ f. length f ≤ most_bytes) → (fault at : ℕ) → IsRecordsFault rs fault at → IfSome told (λ file. IsFindFault file fault at)
records_fault None rs gate has small fault at found = tt
records_fault (Some file) rs gate has small fault at found = inr (rs, small, (gate, has), found)

module _ {X : Type 0} (r : Result X JournalError) where
  -- what holds of their faults holds of those of the bytes
  told_faulty : (file : List ℕ) (rs : List (List ℕ)) (gate : ℕ) → HasRecords rs gate file → length file ≤ most_bytes → 1 ≤ length rs → ((fault at : ℕ) → IsRecordsFault rs fault at → IsFaultOrFailure fault at r)
      → (fault at : ℕ) → IsFindFault file fault at → IsFaultOrFailure fault at r
  told_faulty file rs gate has small some faulty fault at (inl found) = absurd (no_bytes_fault file rs gate has some small fault at found)
  told_faulty file rs gate has small some faulty fault at (inr (qs, le, are, found)) = faulty fault at (subst (λ (l : List (List ℕ)). IsRecordsFault l fault at) (one_list file qs rs are.0 gate are.1 has) found)

  pub records_faulty : (told : Option (List ℕ)) (rs : List (List ℕ)) (gate : ℕ) → IfSome told (λ f. HasRecords rs gate f) → IfSome told (λ f. length f ≤ most_bytes) → 1 ≤ length rs → ((fault at : ℕ) → IsRecordsFault rs fault at → IsFaultOrFailure fault at r)
      → IfSome told (λ file. (fault at : ℕ) → IsFindFault file fault at → IsFaultOrFailure fault at r)
  records_faulty None rs gate has small some faulty = tt
  records_faulty (Some file) rs gate has small some faulty = told_faulty file rs gate has small some faulty

  pub records_found : (told : Option (List ℕ)) (rs : List (List ℕ)) (gate : ℕ) → IfSome told (λ f. HasRecords rs gate f) → ((P : Program) (T : Run) → StandsFor rs P T → IfErr r IsFailure)
      → IfSome told (λ file. (P : Program) (T : Run) → length file ≤ most_bytes → Stands file P T → IfErr r IsFailure)
  records_found None rs gate has fails = tt
  records_found (Some file) rs gate has fails = λ P T fits stands. fails P T (subst (λ (l : List (List ℕ)). StandsFor l P T) (one_list file stands.records rs stands.are.0 gate stands.are.1 has) stands.stand)

-- records whose first is no program, or whose reading failed
module _ {X : Type 0} (rs : List (List ℕ)) (r : Result X JournalError) (e : JournalError) (is : r ≡ Err e) (told : (fault at : ℕ) → e ≡ Fault fault at → (fault ≡ 3) × (at ≡ 0) × HasNoProgram rs) where
  first_fault : (fault at f a : ℕ) → (f ≡ 3) × (a ≡ 0) × HasNoProgram rs → IsRecordsFault rs fault at → IsFaultOrFailure {X = X} fault at (Err (Fault f a))
  first_fault fault at f a now (in_first x y other) = inl (ap₂ (λ (m n : ℕ). Err (Fault m n)) (now.0 ∙ sym x) (now.1 ∙ sym y))
  first_fault fault at f a now (in_later P T d same one) = absurd (no_program rs P T (Some d) one now.2)

  pub first_faulty : (fault at : ℕ) → IsRecordsFault rs fault at → IsFaultOrFailure fault at r
  first_faulty fault at found =
      subst (λ q. IsFaultOrFailure fault at q) (sym is)
      (failed_or r e is (λ d. IsFaultOrFailure {X = X} fault at (Err d)) (inr (inl refl)) (inr (inr refl)) (λ f a same. first_fault fault at f a (told f a same) found))

  pub first_found : (P : Program) (T : Run) → StandsFor rs P T → IfErr r IsFailure
  first_found P T stand = subst (λ q. IfErr q IsFailure) (sym is) (failed_or r e is IsFailure tt tt (λ f a same. absurd (no_program rs P T None stand (told f a same).2)))

-- records that were read
module _ {X : Type 0} (rs : List (List ℕ)) (r : Result X JournalError) (P : Program) (T : Run) where
  -- all of them
  pub all_faulty : StandsFor rs P T → (fault at : ℕ) → IsRecordsFault rs fault at → IsFaultOrFailure fault at r
  all_faulty stand fault at (in_first f a lacks) = absurd (no_program rs P T None stand lacks)
  all_faulty stand fault at (in_later Q U e same one) = absurd (no_fault rs Q P U T e stand one)

  -- up to a fault
  pub some_faulty_read : (e : RecordFault) → IsReadAs rs P T (Some e) → r ≡ Err (error_of e) → (fault at : ℕ) → IsRecordsFault rs fault at → IsFaultOrFailure fault at r
  some_faulty_read e one is fault at (in_first f a lacks) = absurd (no_program rs P T (Some e) one lacks)
  some_faulty_read e one is fault at (in_later Q U d same other) = inl (is ∙ ap (λ (g : RecordFault). Err (error_of g)) (one_fault rs P Q T U e d one other) ∙ ap Err same)

  pub none_stand : (e : RecordFault) → IsReadAs rs P T (Some e) → (Q : Program) (U : Run) → StandsFor rs Q U → IfErr r IsFailure
  none_stand e one Q U stand = absurd (no_fault rs P Q T U e stand one)

-- with a fault or without
pub all_read : (rs : List (List ℕ)) (P : Program) (T : Run) (o : Option RecordFault) → o ≡ None → IsReadAs rs P T o → StandsFor rs P T
all_read rs P T None is read = read
all_read rs P T (Some e) is read = cc

pub some_read : (rs : List (List ℕ)) (P : Program) (T : Run) (o : Option RecordFault) (e : RecordFault) → o ≡ Some e → IsReadAs rs P T o → IsReadAs rs P T (Some e)
some_read rs P T o e is read = subst (IsReadAs rs P T) is read

pub error_is : {X : Type 0} (d : JournalError) (e : RecordFault) (f : JournalError) → d ≡ error_of e → ◌≡◌ {A = Result X JournalError} (Err d) (Err f) → error_of e ≡ f
error_is {X = X} d e f is same = sym is ∙ same_error {X = X} d f same

pub no_disk_error : (e : RecordFault) → error_of e ≡ DiskFault → ⊥
no_disk_error (Item k) same = cc
no_disk_error (ScriptFull n) same = cc

-- which faults are told
pub first_number : (fault : ℕ) → IsFirstNumber fault → IsFindNumber fault
first_number fault (inl one) = inl (omega (arith, one), omega (arith, one))
first_number fault (inr (inl two)) = inl (omega (arith, two), omega (arith, two))
first_number fault (inr (inr eight)) = inr (inr eight)

pub later_number : (e : RecordFault) (fault at : ℕ) → error_of e ≡ Fault fault at → IsFindNumber fault
later_number (Item k) fault at same = let four : 4 ≡ fault = cc in inl (omega (arith, four), omega (arith, four))
later_number (ScriptFull n) fault at same = let six : 6 ≡ fault = cc in inr (inl (sym six))
