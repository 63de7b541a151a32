-- What stands on a disk from which a run is gone on with.
use Rattle.std.proofs.Common.{◌≡◌, ◌+◌, ◌⊎◌, inl, inr, ⊎_elim, ℕ, ◌≤◌, ◌<◌, List, length, Option, Some, None, IfSome, refl, sym, ap, ◌∙◌, subst, arith}
use Rattle.std.specs.Prelude.{◌↔◌, max, Bool, true, false, IsTrue, Result, Ok, Err, IfOk}
use Rattle.tau_tree.specs.declared.programs.Program.{Program}
use Rattle.tau_tree.specs.Sound.{Sound}
use Rattle.tau_trace.specs.Run.{Run, len}
use Rattle.tau_trace.proofs.Lists.{same_some}
use Rattle.tau_legal.specs.Traces.{Legal, Complete}
use Rattle.tau_legal.specs.Ends.{EndsAt}
use Rattle.tau_journal.specs.Disk.Bytes.{Only}
use Rattle.tau_journal.specs.Disk.Moments.{LeavesOnly}
use Rattle.tau_journal.proofs.Moments.{weaker, joined}
use Rattle.tau_journal.specs.Records.{written, HasRecords, IsAtRest, going_on}
use Rattle.tau_journal.specs.Laws.{RecordsAreUnique}
use Rattle.tau_journal.specs.Room.{most_bytes, IsFailure, IsFaultOrFailure}
use Rattle.tau_journal.specs.declared.errors.JournalError.{JournalError}
use Rattle.tau_journal.specs.declared.errors.JournalError.TheVariants.{Fault, DiskFault, NoMemory}
use Rattle.tau_revival.specs.Revival.{IsRevival}
use Rattle.tau_revival.specs.Laws.{RevivalKeepsLegality}
use Rattle.tau_book.specs.Onward.{BeginsWith}
use Rattle.tau_book.specs.Alone.{IsRunAfter}
use Rattle.tau_run_journal.specs.Standing.{Stands, StandsAt}
use Rattle.tau_run_journal.specs.Laws.{IsRunOf, BytesStandForOneRun}
use Rattle.tau_run_journal.proofs.Finds.{no_failure}
use Rattle.tau_journaling.specs.Found.Faults.{IsResumeFault, IsResumeNumber}
use Rattle.tau_journaling.specs.Found.Reviving.{StandsForRevival, IsReviveFault}
use Rattle.tau_journaling.specs.Going.{StandsBetween}
use Rattle.tau_journaling.specs.Kept.{IsKeptOn, StandsForLonger}
use Rattle.tau_journaling.specs.Resumed.{IsResumed, StandsForResumed, StandsForFrontOf, IsGoneOnFault, IsUnrevived, IsResumeRunFault, in_finding, in_going}
use Rattle.tau_journaling.proofs.Onward.{begins_itself}
use Rattle.tau_journaling.proofs.KeptRuns.{stands_there, kept_at}
use Rattle.tau_journaling.proofs.Faulted.{of_same}

-- the disk stands for what it stood for
itself : (P : Program) (T : Run) → Legal P T → (c : List ℕ) → Stands c P T → StandsForResumed P T c
itself P T legal c stands = record { program = P; run = T; how = inl refl; begins = begins_itself T; legal = legal; stands = stands }

module _ {D : Type 0} (images : D → List ℕ → Type 0) (moment : D → ℕ) (left_since : D → ℕ → List ℕ → Type 0) where
  abbrev Leaves : D → D → (List ℕ → Type 0) → Type 0
  Leaves a b Q = LeavesOnly moment left_since a b Q

  -- while the program is revived, and its run goes on
  module _ (P : Program) (T : Run) where
    module _ (keeps : RevivalKeepsLegality) (sound : Sound P) (legal : Legal P T) where
      marked : (c : List ℕ) → StandsForRevival P T c → StandsForResumed P T c
      marked c (inl stands) = itself P T legal c stands
      marked c (inr (Q, revival, stands)) = record { program = Q; run = T; how = inr revival; begins = begins_itself T; legal = (keeps P Q T sound revival).0 legal; stands = stands }

      pub leaves_marked : (old new : D) → Leaves old new (StandsForRevival P T) → Leaves old new (StandsForResumed P T)
      leaves_marked old new left = weaker moment left_since old new (StandsForRevival P T) (StandsForResumed P T) marked left

      pub leaves_gone_on : (Q : Program) → IsRevival P T Q → (old mid new : D) → Leaves old mid (StandsForRevival P T) → Leaves mid new (StandsForLonger Q T) → Leaves old new (StandsForResumed P T)
      leaves_gone_on Q revival old mid new one two =
          joined moment left_since old mid new (StandsForResumed P T) (leaves_marked old mid one)
          (weaker moment left_since mid new (StandsForLonger Q T) (StandsForResumed P T)
          (λ c x. record { program = Q; run = x.run; how = inr revival; begins = x.begins; legal = x.legal; stands = x.stands }) two)

    -- fronts of the run that was made
    module _ (U : Run) (more : BeginsWith T U) where
      marked_front : (c : List ℕ) → StandsForRevival P T c → StandsForFrontOf U c
      marked_front c (inl stands) = (P, T, more, stands)
      marked_front c (inr (Q, revival, stands)) = (Q, T, more, stands)

      pub leaves_fronts : (Q : Program) (old mid new : D) → Leaves old mid (StandsForRevival P T) → Leaves mid new (StandsBetween Q T U) → Leaves old new (StandsForFrontOf U)
      leaves_fronts Q old mid new one two =
          joined moment left_since old mid new (StandsForFrontOf U)
          (weaker moment left_since old mid (StandsForRevival P T) (StandsForFrontOf U) marked_front one)
          (weaker moment left_since mid new (StandsBetween Q T U) (StandsForFrontOf U) (λ c x. (Q, x.run, x.comes_to, x.stands)) two)

  -- while the run is found, which writes nothing
  module _ (old mid : D) (looked : Leaves old mid (images old)) where
    found_itself : (file : List ℕ) (P : Program) (T : Run) → Only (Some file) (images old) → Stands file P T → Legal P T → Leaves old mid (StandsForResumed P T)
    found_itself file P T only stands legal = weaker moment left_since old mid (images old) (StandsForResumed P T)
        (λ c now. itself P T legal c (subst (λ (f : List ℕ). Stands f P T) (sym (only c now)) stands)) looked

    pub leaves_found : (o : Option (List ℕ)) → IfSome o (λ file. Only o (images old) → (P : Program) (T : Run) → Stands file P T → Legal P T → Leaves old mid (StandsForResumed P T))
    leaves_found None = tt
    leaves_found (Some file) = λ only P T stands legal. found_itself file P T only stands legal

    -- and what was found is gone on with
    module _ (P : Program) (T : Run) (gate : ℕ) where
      pub leaves_resumed : BytesStandForOneRun → (new : D) (o : Option (List ℕ)) → IfSome o (λ _. StandsAt o gate P T) → (StandsAt o gate P T → Leaves mid new (StandsForResumed P T))
          → IfSome o (λ file. Only o (images old) → (Q : Program) (U : Run) → Stands file Q U → Legal Q U → Leaves old new (StandsForResumed Q U))
      leaves_resumed once new None at more = tt
      leaves_resumed once new (Some file) at more = λ only Q U stands legal.
          let same = once file P Q T U (stands_there file gate P T at) stands in
          joined moment left_since old mid new (StandsForResumed Q U) (found_itself file Q U only stands legal)
          (of_same (λ X V. Leaves mid new (StandsForResumed X V)) P Q T U same.0 same.1 (more at))

      found_front : (file : List ℕ) (U : Run) → BeginsWith T U → Only (Some file) (images old) → StandsAt (Some file) gate P T → Leaves old mid (StandsForFrontOf U)
      found_front file U begins only at = weaker moment left_since old mid (images old) (StandsForFrontOf U)
          (λ c now. (P, T, begins, subst (λ (f : List ℕ). Stands f P T) (sym (only c now)) (stands_there file gate P T at))) looked

      pub leaves_whole : (o : Option (List ℕ)) → IfSome o (λ _. StandsAt o gate P T) → IfSome o (λ file. Only o (images old) → Leaves old mid (StandsForFrontOf T))
      leaves_whole None at = tt
      leaves_whole (Some file) at = λ only. found_front file T (begins_itself T) only at

      pub leaves_resumed_fronts : (U : Run) → BeginsWith T U → (new : D) (o : Option (List ℕ)) → IfSome o (λ _. StandsAt o gate P T) → (StandsAt o gate P T → Leaves mid new (StandsForFrontOf U))
          → IfSome o (λ file. Only o (images old) → Leaves old new (StandsForFrontOf U))
      leaves_resumed_fronts U begins new None at more = tt
      leaves_resumed_fronts U begins new (Some file) at more = λ only.
          joined moment left_since old mid new (StandsForFrontOf U) (found_front file U begins only at) (more at)

-- what was found, where the disk tells its bytes
module _ (P : Program) (T : Run) (gate : ℕ) where
  -- after a look at the disk
  pub stands_still : (o now : Option (List ℕ)) → now ≡ o → StandsAt o gate P T → StandsAt now gate P T
  stands_still o now same at = subst (λ (x : Option (List ℕ)). StandsAt x gate P T) (sym same) at

  pub kept_then : (o bytes : Option (List ℕ)) (images : List ℕ → Type 0) (Q : Program) (U : Run) → IfSome o (λ _. StandsAt o gate P T) → (StandsAt o gate P T → IsKeptOn bytes images Q U) → IfSome o (λ _. IsKeptOn bytes images Q U)
  kept_then None bytes images Q U at kept = tt
  kept_then (Some file) bytes images Q U at kept = kept at

  pub told_there : (o : Option (List ℕ)) → IfSome o (λ _. StandsAt o gate P T) → IfSome o (λ file. Stands file P T)
  told_there None at = tt
  told_there (Some file) at = stands_there file gate P T at

  -- a complete run isn't gone on with
  pub stays_complete : BytesStandForOneRun → (¬ Complete P T) → (A : Type 0) (o : Option (List ℕ)) → IfSome o (λ _. StandsAt o gate P T) → IfSome o (λ file. (Q : Program) (U : Run) → Stands file Q U → Legal Q U → Complete Q U → A)
  stays_complete once incomplete A None at = tt
  stays_complete once incomplete A (Some file) at = λ Q U stands legal complete.
      let same = once file Q P U T stands (stands_there file gate P T at) in
      absurd (incomplete (of_same Complete Q P U T same.0 same.1 complete))

  pub going_fault : (jobs seed steps : ℕ) → Legal P T → (¬ Complete P T) → (o after : Option (List ℕ)) (fault at : ℕ) → IfSome o (λ _. StandsAt o gate P T) → (StandsAt o gate P T → IsGoneOnFault P T jobs seed steps gate o after fault at)
      → IfSome o (λ file. IsResumeRunFault jobs seed steps file after fault at)
  going_fault jobs seed steps legal incomplete None after fault at stands found = tt
  going_fault jobs seed steps legal incomplete (Some file) after fault at stands found = in_going P T gate (record { stands = stands; legal = legal; incomplete = incomplete }) (found stands)

  -- the gate is that of each list of records
  same_gate : RecordsAreUnique → (file : List ℕ) (Q : Program) (U : Run) (by : ℕ) → StandsAt (Some file) gate P T → StandsAt (Some file) by Q U → by ≡ gate
  same_gate unique file Q U by a b =
      let there = subst (λ (f : List ℕ). HasRecords a.records gate f) (sym (same_some a.told.told)) a.told.has in
      let here = subst (λ (f : List ℕ). HasRecords b.records by f) (sym (same_some b.told.told)) b.told.has in
      here.gate_is ∙ ap (λ (rs : List (List ℕ)). length (written rs)) (unique.law b.records a.records by gate file here there) ∙ sym there.gate_is

  -- what isn't revived is what was found
  pub going_unrevived : BytesStandForOneRun → RecordsAreUnique → {X : Type 0} (r : Result X JournalError) (o : Option (List ℕ)) → IfSome o (λ _. StandsAt o gate P T)
      → ((fault at : ℕ) → StandsAt o gate P T → IsReviveFault P o (gate + 5 + length going_on + 1) fault at → IsFaultOrFailure fault at r)
      → IfSome o (λ file. (fault at : ℕ) → length file ≤ most_bytes → IsUnrevived file fault at → IsFaultOrFailure fault at r)
  going_unrevived once unique r None at faulty = tt
  going_unrevived once unique r (Some file) stands faulty = λ fault at fits u.
      let there = u.unfinished.stands in
      let same = once file u.program P u.run T (stands_there file u.gate u.program u.run there) (stands_there file gate P T stands) in
      faulty fault at stands
      (subst (λ (n : ℕ). IsReviveFault P (Some file) (n + 5 + length going_on + 1) fault at) (same_gate unique file u.program u.run u.gate stands there)
      (subst (λ (X : Program). IsReviveFault X (Some file) (u.gate + 5 + length going_on + 1) fault at) same.0 u.unrevived))

  -- and the disk stays
  pub stays_unrevived : BytesStandForOneRun → RecordsAreUnique → (A : Type 0) (o : Option (List ℕ)) → IfSome o (λ _. StandsAt o gate P T)
      → ((fault at : ℕ) → StandsAt o gate P T → IsReviveFault P o (gate + 5 + length going_on + 1) fault at → A)
      → IfSome o (λ file. (fault at : ℕ) → length file ≤ most_bytes → IsUnrevived file fault at → A)
  stays_unrevived once unique A None at stays = tt
  stays_unrevived once unique A (Some file) stands stays = λ fault at fits u.
      let there = u.unfinished.stands in
      let same = once file u.program P u.run T (stands_there file u.gate u.program u.run there) (stands_there file gate P T stands) in
      stays fault at stands
      (subst (λ (n : ℕ). IsReviveFault P (Some file) (n + 5 + length going_on + 1) fault at) (same_gate unique file u.program u.run u.gate stands there)
      (subst (λ (X : Program). IsReviveFault X (Some file) (u.gate + 5 + length going_on + 1) fault at) same.0 u.unrevived))

  -- a complete run that was found isn't revived
  pub complete_unrevived : BytesStandForOneRun → Complete P T → {X : Type 0} (r : Result X JournalError) (o : Option (List ℕ)) → IfSome o (λ _. StandsAt o gate P T)
      → IfSome o (λ file. (fault at : ℕ) → length file ≤ most_bytes → IsUnrevived file fault at → IsFaultOrFailure fault at r)
  complete_unrevived once complete r None at = tt
  complete_unrevived once complete r (Some file) stands = λ fault at fits u.
      let same = once file P u.program T u.run (stands_there file gate P T stands) (stands_there file u.gate u.program u.run u.unfinished.stands) in
      absurd (u.unfinished.incomplete (of_same Complete P u.program T u.run same.0 same.1 complete))

-- what was found is within the most bytes, and a complete run that was found is kept as it is
small_or_not : (n : ℕ) → (n ≤ most_bytes) ⊎ (most_bytes < n)
small_or_not n = grind arith

module _ {X : Type 0} (x : X) where
  abbrev NoneTold : Option (List ℕ) → Type 0
  NoneTold o = IfSome o (λ file. (fault at : ℕ) → IsResumeFault file fault at → IsFaultOrFailure {X = X} fault at (Ok x))

  small_found : (o : Option (List ℕ)) → NoneTold o → IfSome o (λ file. length file ≤ most_bytes)
  small_found None faulty = tt
  small_found (Some file) faulty = ⊎_elim (λ le. le) (λ l. absurd (no_failure x 8 (length file) (faulty 8 (length file) (inl (inl (refl, refl, l)))))) (small_or_not (length file))

  pub kept_whole : (o now : Option (List ℕ)) (images : List ℕ → Type 0) (gate : ℕ) (P : Program) (T : Run) → now ≡ o → NoneTold o → IsAtRest now images gate → IfSome o (λ _. StandsAt o gate P T) → IfSome o (λ _. IsKeptOn now images P T)
  kept_whole None now images gate P T same faulty rest at = tt
  kept_whole (Some file) now images gate P T same faulty rest at =
      subst (λ (o : Option (List ℕ)). IsKeptOn o images P T) (sym same) (kept_at (Some file) images gate P T (subst (λ (o : Option (List ℕ)). IsAtRest o images gate) same rest) (small_found (Some file) faulty) at)

  -- where no fault was told, nothing is claimed of a disk with one
  pub never_faulty : (A : Type 0) (o : Option (List ℕ)) → NoneTold o → IfSome o (λ file. (fault at : ℕ) → IsResumeFault file fault at → A)
  never_faulty A None faulty = tt
  never_faulty A (Some file) faulty = λ fault at found. absurd (no_failure x fault at (faulty fault at found))

-- nothing was written, whatever the disk has
pub whatever_faulty : (A : Type 0) → A → (o : Option (List ℕ)) → IfSome o (λ file. (fault at : ℕ) → IsResumeFault file fault at → A)
whatever_faulty A a None = tt
whatever_faulty A a (Some file) = λ fault at found. a

pub whatever_unrevived : (A : Type 0) → A → (o : Option (List ℕ)) → IfSome o (λ file. (fault at : ℕ) → length file ≤ most_bytes → IsUnrevived file fault at → A)
whatever_unrevived A a None = tt
whatever_unrevived A a (Some file) = λ fault at few found. a

pub whatever_complete : (A : Type 0) → A → (o : Option (List ℕ)) → IfSome o (λ file. (P : Program) (T : Run) → Stands file P T → Legal P T → Complete P T → A)
whatever_complete A a None = tt
whatever_complete A a (Some file) = λ P T stands legal complete. a

-- which faults come behind what was found
pub resume_number : (fault : ℕ) → (fault ≡ 6) ⊎ (fault ≡ 8) → IsResumeNumber fault
resume_number fault (inl six) = inl (omega (arith, six), omega (arith, six))
resume_number fault (inr eight) = inr eight

-- nothing was found
pub finding_fault : (jobs seed steps : ℕ) (o after : Option (List ℕ)) (fault at : ℕ) → IfSome o (λ file. IsResumeFault file fault at) → IfSome o (λ file. IsResumeRunFault jobs seed steps file after fault at)
finding_fault jobs seed steps None after fault at found = tt
finding_fault jobs seed steps (Some file) after fault at found = in_finding found

failed : {X : Type 0} (e : JournalError) (fault at : ℕ) → IsFailure e → IsFaultOrFailure {X = X} fault at (Err e)
failed (Fault f a) fault at fails = absurd fails
failed DiskFault fault at fails = inr (inl refl)
failed NoMemory fault at fails = inr (inr refl)

pub finding_unrevived : {X : Type 0} (r : Result X JournalError) (e : JournalError) → r ≡ Err e → (o : Option (List ℕ))
    → IfSome o (λ file. (P : Program) (T : Run) → length file ≤ most_bytes → Stands file P T → Legal P T → IsFailure e)
    → IfSome o (λ file. (fault at : ℕ) → length file ≤ most_bytes → IsUnrevived file fault at → IsFaultOrFailure fault at r)
finding_unrevived r e is None found = tt
finding_unrevived {X = X} r e is (Some file) found = λ fault at fits u.
    let x = u.unfinished in
    subst (λ q. IsFaultOrFailure fault at q) (sym is) (failed {X = X} e fault at (found u.program u.run fits (stands_there file u.gate u.program u.run x.stands) x.legal))

-- what isn't told as complete isn't complete
pub not_complete : (A : Type 0) (b : Bool) → b ≡ false → IsTrue b ↔ A → ¬ A
not_complete A b off told a =
    let on = told.1 a in
    cc

-- a complete run that was found
pub resumed_whole : (P : Program) (T : Run) (bytes : Option (List ℕ)) (jobs seed steps : ℕ) → IsRunOf P T → Legal P T → IfSome bytes (λ file. Stands file P T) → Complete P T → IsResumed bytes jobs seed steps P T true
resumed_whole P T bytes jobs seed steps of legal told complete = record {
  program = P;
  run = T;
  is_run = of;
  legal = legal;
  told = told;
  how = inl (complete, refl, refl);
  begins = begins_itself T;
  sound = of.sound;
  ends = record { well_formed = of.well_formed; legal = legal; complete = λ e. (complete, omega arith); stopped = λ e. absurd (cc) };
}

-- and one that isn't
pub resumed_further : (P Q : Program) (T U : Run) (bytes : Option (List ℕ)) (jobs seed steps : ℕ) (is_complete : Bool) → IsRunOf P T → Legal P T → IfSome bytes (λ file. Stands file P T) → (¬ Complete P T)
    → IsRevival P T Q → Sound Q → BeginsWith T U → IsRunAfter Q jobs seed (max steps (len T)) T U → EndsAt (max steps (len T)) Q U is_complete → IsResumed bytes jobs seed steps Q U is_complete
resumed_further P Q T U bytes jobs seed steps is_complete of legal told incomplete revival sound begins after ends = record {
  program = P;
  run = T;
  is_run = of;
  legal = legal;
  told = told;
  how = inr (incomplete, revival, after);
  begins = begins;
  sound = sound;
  ends = ends;
}

-- five things that are said of an answer
pub if_ok_all : {X E : Type 0} (A B C D F G : X → Type 0) (r : Result X E) → ((x : X) → A x → B x → C x → D x → F x → G x) → IfOk r A → IfOk r B → IfOk r C → IfOk r D → IfOk r F → IfOk r G
if_ok_all A B C D F G (Ok x) all a b c d f = all x a b c d f
if_ok_all A B C D F G (Err e) all a b c d f = tt
