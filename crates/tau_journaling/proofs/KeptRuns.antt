-- What stands on a disk on which a run is kept.
use Rattle.std.proofs.Common.{◌≡◌, inl, inr, ℕ, ◌≤◌, List, [], ◌∷◌, length, Option, Some, None, IfSome, refl, sym, subst}
use Rattle.std.specs.Prelude.{Ok}
use Rattle.tau_tree.specs.declared.programs.Program.{Program}
use Rattle.tau_trace.specs.Run.{Run, len}
use Rattle.tau_trace.proofs.Lists.{same_some}
use Rattle.tau_legal.specs.Traces.{Legal}
use Rattle.tau_legal.specs.Laws.{LegalityIsLocal}
use Rattle.tau_journal.specs.Disk.Bytes.{Only}
use Rattle.tau_journal.specs.Disk.Moments.{LeavesOnly}
use Rattle.tau_journal.proofs.Moments.{weaker, joined}
use Rattle.tau_journal.specs.Records.{HasRecords, AreRecords, IsAtRest}
use Rattle.tau_journal.specs.Found.{IsBlank, IsCreateFault}
use Rattle.tau_journal.specs.Room.{most_bytes, IsFaultOrFailure}
use Rattle.tau_book.specs.Books.{Booked, IsBook}
use Rattle.tau_book.specs.Onward.{GoesOnFrom}
use Rattle.tau_book.specs.Hands.{Held}
use Rattle.tau_book.specs.Working.{IsAtWork}
use Rattle.tau_book.specs.Alone.{ComesAfter}
use Rattle.tau_book.specs.Laws.{ComesAfterNone}
use Rattle.tau_book.proofs.Own.{places}
use Rattle.tau_run_journal.specs.Standing.{IsProgramText, opened, begins, Stands, StandsAt, StandsForEither, IsBlankOrBegins}
use Rattle.tau_run_journal.specs.Laws.{IsRunOf, RecordsStandForRuns}
use Rattle.tau_run_journal.proofs.Kept.{leaves_at_first}
use Rattle.tau_run_journal.proofs.Finds.{no_failure}
use Rattle.tau_journaling.specs.Going.{StandsBetween, HasNoRoom}
use Rattle.tau_journaling.specs.Kept.{IsKeptOn, StandsForLonger, HasNoRoomAfter, HasNoRoomInSerial, IsBlankOrStands, IsBlankOrFrontOf, first_size, IsKeepFault}
use Rattle.tau_journaling.proofs.Onward.{begins_itself}
use Rattle.tau_journaling.proofs.Fronts.{begins_opened, legal_opened, legal_front}

-- bytes at a gate
pub stands_there : (file : List ℕ) (gate : ℕ) (P : Program) (T : Run) → StandsAt (Some file) gate P T → Stands file P T
stands_there file gate P T at = record {
  records = at.records;
  are = (gate, subst (λ (f : List ℕ). HasRecords at.records gate f) (sym (same_some at.told.told)) at.told.has);
  stand = at.stand;
}

pub kept_at : (bytes : Option (List ℕ)) (images : List ℕ → Type 0) (gate : ℕ) (P : Program) (T : Run) → IsAtRest bytes images gate → IfSome bytes (λ file. length file ≤ most_bytes) → StandsAt bytes gate P T → IsKeptOn bytes images P T
kept_at bytes images gate P T rest small at = record {
  file = at.told.file;
  told = at.told.told;
  stands = record { records = at.records; are = (gate, at.told.has); stand = at.stand };
  only = (subst (λ (o : Option (List ℕ)). IsAtRest o images gate) at.told.told rest).1;
  few = subst (λ (o : Option (List ℕ)). IfSome o (λ file. length file ≤ most_bytes)) at.told.told small;
}

-- a book that goes on, whose run is legal then
module _ (old new : Booked) (goes : GoesOnFrom old new) (is : IsBook new) where
  abbrev P : Program
  P = old.system.program

  legal_then : Legal P new.system.run
  legal_then = subst (λ Q. Legal Q new.system.run) goes.program is.legal

  within_limit : len new.system.run ≤ old.limit
  within_limit = subst (λ n. len new.system.run ≤ n) goes.limit is.limited

  -- by a hand that is at work
  pub no_room_after : (seed : ℕ) (h k : Held) → k.size ≡ h.size → IsAtWork seed old.system.run new k → (bytes : Option (List ℕ)) (at : ℕ) → HasNoRoom P old.system.run new.system.run bytes at
      → HasNoRoomAfter P h.size seed old.limit old.system.run bytes at
  no_room_after seed h k size w bytes at full = record {
    run = new.system.run;
    waiting = places new.store;
    generator = k.generator;
    comes_after = subst (λ n. ComesAfter P n seed old.system.run new.system.run (places new.store) k.generator) size (subst (λ Q. ComesAfter Q k.size seed old.system.run new.system.run (places new.store) k.generator) goes.program w);
    legal = legal_then;
    within = within_limit;
    no_room = full;
  }

  module _ (runs : RecordsStandForRuns) (local : LegalityIsLocal) where
    longer : (c : List ℕ) → StandsBetween P old.system.run new.system.run c → StandsForLonger P old.system.run c
    longer c b =
        let of : IsRunOf P b.run = runs b.stands.records P b.run b.stands.stand in
        record {
          run = b.run;
          begins = b.goes_on;
          legal = legal_front local P b.run new.system.run b.comes_to of.well_formed is.well_formed of.opening legal_then;
          stands = b.stands;
        }

    pub leaves_longer : {D : Type 0} (moment : D → ℕ) (left_since : D → ℕ → List ℕ → Type 0) (d e : D)
        → LeavesOnly moment left_since d e (StandsBetween P old.system.run new.system.run) → LeavesOnly moment left_since d e (StandsForLonger P old.system.run)
    leaves_longer moment left_since d e left = weaker moment left_since d e (StandsBetween P old.system.run new.system.run) (StandsForLonger P old.system.run) longer left

-- what a crash leaves
module _ {D : Type 0} (images : D → List ℕ → Type 0) (moment : D → ℕ) (left_since : D → ℕ → List ℕ → Type 0) where
  abbrev Leaves : D → D → (List ℕ → Type 0) → Type 0
  Leaves a b Q = LeavesOnly moment left_since a b Q

  -- before the first call
  pub leaves_itself : ((d : D) (c : List ℕ) → left_since d (moment d) c → images d c) → (P : Program) (T : Run) → Legal P T → (d : D) (bytes : Option (List ℕ)) (gate : ℕ) → IsAtRest bytes (images d) gate → StandsAt bytes gate P T → Leaves d d (StandsForLonger P T)
  leaves_itself only_now P T legal d bytes gate rest at =
      weaker moment left_since d d (StandsForEither P T P T) (StandsForLonger P T) itself (leaves_at_first images moment left_since only_now P P T T d bytes gate at rest) where
        itself : (c : List ℕ) → StandsForEither P T P T c → StandsForLonger P T c
        itself c (inl stands) = record { run = T; begins = begins_itself T; legal = legal; stands = stands }
        itself c (inr stands) = record { run = T; begins = begins_itself T; legal = legal; stands = stands }

  -- while a program is kept, and then its run
  module _ (P : Program) (old : D) where
    first_stands : (c : List ℕ) → (r : List ℕ) × IsProgramText P r × AreRecords (r ∷ []) c → Stands c P (opened P)
    first_stands c (r, text, are) = record { records = r ∷ []; are = are; stand = begins text }

    begun : (c : List ℕ) → IsBlankOrBegins P c → IsBlankOrStands P c
    begun c (inl blank) = inl blank
    begun c (inr first) = inr (opened P, first_stands c first, legal_opened P)

    front_begun : (U : Run) (c : List ℕ) → IsBlankOrBegins P c → IsBlankOrFrontOf P U c
    front_begun U c (inl blank) = inl blank
    front_begun U c (inr first) = inr (opened P, begins_opened P U, first_stands c first)

    -- a journal of it is made
    pub keeping_begun : (o : Option (List ℕ)) (mid : D) → IfSome o (λ file. IsBlank file → Only o (images old) → Leaves old mid (IsBlankOrBegins P))
        → IfSome o (λ file. IsBlank file → Only o (images old) → Leaves old mid (IsBlankOrStands P))
    keeping_begun None mid left = tt
    keeping_begun (Some file) mid left = λ blank only. weaker moment left_since old mid (IsBlankOrBegins P) (IsBlankOrStands P) begun (left blank only)

    -- it stands for the run without steps, and the run goes on
    module _ (mid new : D) (bytes : Option (List ℕ)) (gate : ℕ) where
      pub keeping_on : (o : Option (List ℕ)) → IfSome o (λ file. IsBlank file → Only o (images old) → Leaves old mid (IsBlankOrBegins P))
          → IfSome o (λ _. StandsAt bytes gate P (opened P)) → (StandsAt bytes gate P (opened P) → Leaves mid new (StandsForLonger P (opened P)))
          → IfSome o (λ file. IsBlank file → Only o (images old) → Leaves old new (IsBlankOrStands P))
      keeping_on None left at more = tt
      keeping_on (Some file) left at more = λ blank only.
          joined moment left_since old mid new (IsBlankOrStands P)
          (weaker moment left_since old mid (IsBlankOrBegins P) (IsBlankOrStands P) begun (left blank only))
          (weaker moment left_since mid new (StandsForLonger P (opened P)) (IsBlankOrStands P) (λ c x. inr (x.run, x.stands, x.legal)) (more at))

      pub front_on : (U : Run) (o : Option (List ℕ)) → IfSome o (λ file. IsBlank file → Only o (images old) → Leaves old mid (IsBlankOrBegins P))
          → IfSome o (λ _. StandsAt bytes gate P (opened P)) → (StandsAt bytes gate P (opened P) → Leaves mid new (StandsBetween P (opened P) U))
          → IfSome o (λ file. IsBlank file → Only o (images old) → Leaves old new (IsBlankOrFrontOf P U))
      front_on U None left at more = tt
      front_on U (Some file) left at more = λ blank only.
          joined moment left_since old mid new (IsBlankOrFrontOf P U)
          (weaker moment left_since old mid (IsBlankOrBegins P) (IsBlankOrFrontOf P U) (front_begun U) (left blank only))
          (weaker moment left_since mid new (StandsBetween P (opened P) U) (IsBlankOrFrontOf P U) (λ c x. inr (x.run, x.comes_to, x.stands)) (more at))

-- behind the run without steps it is that of the serial run
pub no_room_serial : ComesAfterNone → (P : Program) (jobs seed limit : ℕ) (bytes : Option (List ℕ)) (at : ℕ) → HasNoRoomAfter P jobs seed limit (opened P) bytes at → HasNoRoomInSerial P jobs seed limit bytes at
no_room_serial law P jobs seed limit bytes at full = record {
  run = full.run;
  generator = full.generator;
  comes_about = law P jobs seed full.run full.waiting full.generator full.comes_after;
  legal = full.legal;
  within = full.within;
  no_room = full.no_room;
}

-- a journal isn't made of the program, or its run isn't kept
module _ (P : Program) (jobs seed limit : ℕ) (after : Option (List ℕ)) (fault at : ℕ) where
  pub fault_making : (o : Option (List ℕ)) → IfSome o (λ file. IsCreateFault (first_size P) file fault at) → IfSome o (λ file. IsKeepFault P jobs seed limit file after fault at)
  fault_making None found = tt
  fault_making (Some file) found = inl found

  pub fault_keeping : (o bytes : Option (List ℕ)) (gate : ℕ) → fault ≡ 8 → IfSome o (λ _. StandsAt bytes gate P (opened P)) → (StandsAt bytes gate P (opened P) → HasNoRoomInSerial P jobs seed limit after at)
      → IfSome o (λ file. IsKeepFault P jobs seed limit file after fault at)
  fault_keeping None bytes gate eight stands full = tt
  fault_keeping (Some file) bytes gate eight stands full = inr (eight, full stands)

-- a journal isn't made on a disk that isn't blank
pub never_held : {X : Type 0} (x : X) (A : Type 0) (P : Program) (o : Option (List ℕ)) → IfSome o (λ file. (fault at : ℕ) → IsCreateFault (first_size P) file fault at → IsFaultOrFailure {X = X} fault at (Ok x))
    → IfSome o (λ file. (¬ IsBlank file) → A)
never_held x A P None faulty = tt
never_held x A P (Some file) faulty = λ held. absurd (no_failure x 7 0 (faulty 7 0 (inl (refl, refl, held))))
