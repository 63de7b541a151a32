-- Why a run isn't gone on with, and what is written of one that was.
use Rattle.std.proofs.Common.{◌≡◌, ◌≢◌, inl, inr, ℕ, ◌≤◌, max, List, length, Bool, Option, Some, None, IfSome, Result, Ok, Err, refl, sym, subst}
use Rattle.std.specs.Result.{IsErrAnd}
use Rattle.tau_sexpr.specs.Printing.{printed}
use Rattle.tau_tree.specs.declared.programs.Program.{Program}
use Rattle.tau_forms.specs.Printed as forms
use Rattle.tau_trace.specs.Run.{Run, len}
use Rattle.tau_legal.specs.Traces.{Legal, Complete}
use Rattle.tau_journal.specs.Disk.Bytes.{Only}
use Rattle.tau_journal.specs.Disk.Moments.{LeavesOnly, IsUntouched}
use Rattle.tau_journal.proofs.Moments.{started}
use Rattle.tau_journal.specs.Room.{most_bytes, IsFaultOrFailure}
use Rattle.tau_journal.specs.declared.errors.JournalError.{JournalError}
use Rattle.tau_journal.specs.declared.errors.JournalError.TheVariants as journals
use Rattle.tau_run_journal.specs.Standing.{Stands}
use Rattle.tau_run_journal.proofs.Finds.{no_failure}
use Rattle.tau_journaling.specs.Found.Faults.{IsResumeFault, IsResumeNumber}
use Rattle.tau_journaling.specs.Kept.{IsKeptOn}
use Rattle.tau_journaling.specs.Resumed.{IsResumed, StandsForResumed, StandsForFrontOf, IsUnrevived, IsResumeRunFault}
use Rattle.tau_journaling.proofs.Onward.{begins_itself}
use Rattle.tau_output.specs.declared.outputs.Output.{Output}
use Rattle.tau_output.specs.Runs.{RunsAs}
use Rattle.tau_cli.specs.declared.statuses.Status.{Status}
use Rattle.tau_cli.specs.declared.statuses.Status.TheVariants.{NoMemory, Journal, DiskFault}
use Rattle.tau_cli.specs.Status.{of_end, of_journal_error}
use Rattle.tau_cli.specs.Effects.{DiskEffect, IsUnwritten}
use Rattle.tau_cli.specs.Ends.{IsTextStatus, IsResumeRefusal, IsUnlessFailed, ResumeRefusals, ResumeStays}
use Rattle.tau_cli.specs.Inner.{Resumes}
use Rattle.tau_cli.proofs.StatusLemmas.{if_some_at, another, text_status, failure_told, fault_of_status, failure_of_status}

-- what holds of the bytes that a disk tells, told of each that it is
pub told_each : (F : List ℕ → Type 0) (told : Option (List ℕ)) → IfSome told F → (file : List ℕ) → told ≡ Some file → F file
told_each F told is file same = if_some_at told F file same is

module _ (disk : DiskEffect) where
  -- a fault of the disk is told with this status, and a program that isn't revived
  abbrev pub TellsFaulty : Status → Type 0
  TellsFaulty s = (file : List ℕ) (fault at : ℕ) → disk.before ≡ Some file → IsResumeFault file fault at → IsUnlessFailed s (Journal fault at)

  abbrev pub TellsUnrevived : Status → Type 0
  TellsUnrevived s = (file : List ℕ) (fault at : ℕ) → disk.before ≡ Some file → length file ≤ most_bytes → IsUnrevived file fault at → IsUnlessFailed s (Journal fault at)

  -- what a crash leaves
  abbrev pub LeavesResumed : Type 0
  LeavesResumed = (file : List ℕ) (P : Program) (T : Run) → disk.before ≡ Some file → Only disk.before disk.images_before → Stands file P T → Legal P T → disk.Leaves (StandsForResumed P T)

  -- where nothing is written
  pub told_stays : IfSome disk.before (λ file. (fault at : ℕ) → IsResumeFault file fault at → IsUnwritten disk)
      → IfSome disk.before (λ file. (fault at : ℕ) → length file ≤ most_bytes → IsUnrevived file fault at → IsUnwritten disk)
      → IfSome disk.before (λ file. (P : Program) (T : Run) → Stands file P T → Legal P T → Complete P T → IsUnwritten disk) → ResumeStays disk
  told_stays faulty unrevived complete = record {
    faulty = λ file fault at told h. told_each (λ f. (n a : ℕ) → IsResumeFault f n a → IsUnwritten disk) disk.before faulty file told fault at h;
    unrevived = λ file fault at told few h. told_each (λ f. (n a : ℕ) → length f ≤ most_bytes → IsUnrevived f n a → IsUnwritten disk) disk.before unrevived file told fault at few h;
    complete = λ file P T told stands legal whole.
        told_each (λ f. (Q : Program) (U : Run) → Stands f Q U → Legal Q U → Complete Q U → IsUnwritten disk) disk.before complete file told P T stands legal whole;
  }

  pub told_leaves : IfSome disk.before (λ file. Only disk.before disk.images_before → (P : Program) (T : Run) → Stands file P T → Legal P T → disk.Leaves (StandsForResumed P T)) → LeavesResumed
  told_leaves left file P T told only stands legal =
      told_each (λ f. Only disk.before disk.images_before → (Q : Program) (U : Run) → Stands f Q U → Legal Q U → disk.Leaves (StandsForResumed Q U)) disk.before left file told only P T stands legal

  -- a status of a text
  pub quiet : (jobs seed steps : ℕ) (s : Status) → IsTextStatus s → TellsFaulty s → TellsUnrevived s → ResumeRefusals jobs seed steps disk s
  quiet jobs seed steps s is faulty unrevived = record {
    journal = λ fault at e. absurd (another s (Journal fault at) is (λ x. x) e);
    among = λ fault at e. absurd (another s (Journal fault at) is (λ x. x) e);
    faulty = faulty;
    unrevived = unrevived;
    unwritten = λ fault at other e. absurd (another s (Journal fault at) is (λ x. x) e);
    disk_fault = λ e. absurd (another s DiskFault is (λ x. x) e);
  }

  pub no_memory : (jobs seed steps : ℕ) → ResumeRefusals jobs seed steps disk NoMemory
  no_memory jobs seed steps = quiet jobs seed steps NoMemory tt (λ file fault at told h. inr (inr refl)) (λ file fault at told few h. inr (inr refl))

  -- of an error of the journal
  pub refused : (jobs seed steps : ℕ) (X : Type 0) (e : JournalError)
      → ((fault at : ℕ) → e ≡ journals.Fault fault at → IfSome disk.before (λ file. IsResumeRunFault jobs seed steps file disk.after fault at))
      → ((fault at : ℕ) → e ≡ journals.Fault fault at → IsResumeNumber fault)
      → IfSome disk.before (λ file. (fault at : ℕ) → IsResumeFault file fault at → IsFaultOrFailure {X = X} fault at (Err e))
      → IfSome disk.before (λ file. (fault at : ℕ) → length file ≤ most_bytes → IsUnrevived file fault at → IsFaultOrFailure {X = X} fault at (Err e))
      → ((fault at : ℕ) → fault ≢ 8 → e ≡ journals.Fault fault at → IsUnwritten disk) → (e ≡ journals.DiskFault → disk.Failed) → ResumeRefusals jobs seed steps disk (of_journal_error e)
  refused jobs seed steps X e fault_is among faulty unrevived unwritten failed = record {
    journal = λ fault at is. fault_is fault at (fault_of_status e fault at is);
    among = λ fault at is. among fault at (fault_of_status e fault at is);
    faulty = λ file fault at told h. failure_told {X = X} e fault at
        (told_each (λ f. (n a : ℕ) → IsResumeFault f n a → IsFaultOrFailure {X = X} n a (Err e)) disk.before faulty file told fault at h);
    unrevived = λ file fault at told few h. failure_told {X = X} e fault at
        (told_each (λ f. (n a : ℕ) → length f ≤ most_bytes → IsUnrevived f n a → IsFaultOrFailure {X = X} n a (Err e)) disk.before unrevived file told fault at few h);
    unwritten = λ fault at other is. unwritten fault at other (fault_of_status e fault at is);
    disk_fault = λ is. failed (failure_of_status e is);
  }

  -- the run was gone on with
  module _ (X : Type 0) (x : X) (jobs seed steps : ℕ) (Q : Program) (U : Run) (is_complete : Bool) (o : Output)
      (faulty : IfSome disk.before (λ file. (fault at : ℕ) → IsResumeFault file fault at → IsFaultOrFailure {X = X} fault at (Ok x)))
      (unrevived : IfSome disk.before (λ file. (fault at : ℕ) → length file ≤ most_bytes → IsUnrevived file fault at → IsFaultOrFailure {X = X} fault at (Ok x)))
      (resumed : IsResumed disk.before jobs seed steps Q U is_complete)
      (r : RunsAs (max steps (len resumed.run)) (printed (forms.printed Q)) o.end o.text.items) (program : r.program ≡ Q) (run_is : r.run ≡ U)
      (kept : IfSome disk.before (λ _. IsKeptOn disk.after disk.images_after Q U))
      (front : IfSome disk.before (λ _. Only disk.before disk.images_before → disk.Leaves (StandsForFrontOf U))) where
    pub resumes : ResumeStays disk → LeavesResumed → Resumes jobs seed steps disk (Ok o)
    resumes stays left = record {
      is_status = tt;
      refusals = quiet jobs seed steps (of_end o.end) (text_status (max steps (len resumed.run)) r.program r.run o.end r.ends)
          (λ file fault at told h. absurd (no_failure x fault at (told_each (λ f. (n a : ℕ) → IsResumeFault f n a → IsFaultOrFailure {X = X} n a (Ok x)) disk.before faulty file told fault at h)))
          (λ file fault at told few h. absurd (no_failure x fault at
          (told_each (λ f. (n a : ℕ) → length f ≤ most_bytes → IsUnrevived f n a → IsFaultOrFailure {X = X} n a (Ok x)) disk.before unrevived file told fault at few h)));
      stays = stays;
      any_moment = left;
      text = record {
        program = Q;
        run = U;
        is_complete = is_complete;
        resumed = resumed;
        runs = r;
        program_is = program;
        run_is = run_is;
        kept = kept;
        front = front;
      };
    }

  -- no text came of it
  pub resumes_not : (jobs seed steps : ℕ) (made : Result Output Status) (e : Status) → IsErrAnd made (λ s. s ≡ e) → IsResumeRefusal e → ResumeRefusals jobs seed steps disk e → ResumeStays disk → LeavesResumed → Resumes jobs seed steps disk made
  resumes_not jobs seed steps (Ok o) e h is refuses stays left = absurd h
  resumes_not jobs seed steps (Err s) e h is refuses stays left =
      subst (λ x. Resumes jobs seed steps disk (Err x)) (sym h) (record { is_status = is; refusals = refuses; stays = stays; any_moment = left; text = tt })

-- a disk to which nothing was written
module _ {D : Type 0} (bytes : D → Option (List ℕ)) (images : D → List ℕ → Type 0) (moment : D → ℕ) (left_since : D → ℕ → List ℕ → Type 0) (old new : D) where
  abbrev pub Unwritten : Type 0
  Unwritten = (bytes new ≡ bytes old) × LeavesOnly moment left_since old new (images old)

  abbrev pub Untouched : Type 0
  Untouched = IsUntouched bytes images moment left_since old new

  pub faulty_so : (told : Option (List ℕ)) → IfSome told (λ file. (fault at : ℕ) → IsResumeFault file fault at → Untouched) → IfSome told (λ file. (fault at : ℕ) → IsResumeFault file fault at → Unwritten)
  faulty_so None stays = tt
  faulty_so (Some file) stays = λ fault at h. let u = stays fault at h in (u.same, u.leaves)

  pub unrevived_so : (told : Option (List ℕ)) → IfSome told (λ file. (fault at : ℕ) → length file ≤ most_bytes → IsUnrevived file fault at → Untouched)
      → IfSome told (λ file. (fault at : ℕ) → length file ≤ most_bytes → IsUnrevived file fault at → Unwritten)
  unrevived_so None stays = tt
  unrevived_so (Some file) stays = λ fault at few h. let u = stays fault at few h in (u.same, u.leaves)

  pub complete_so : (told : Option (List ℕ)) → IfSome told (λ file. (P : Program) (T : Run) → Stands file P T → Legal P T → Complete P T → Untouched)
      → IfSome told (λ file. (P : Program) (T : Run) → Stands file P T → Legal P T → Complete P T → Unwritten)
  complete_so None stays = tt
  complete_so (Some file) stays = λ P T stands legal whole. let u = stays P T stands legal whole in (u.same, u.leaves)

-- a disk that was not touched
pub unwritten_still : {D : Type 0} (images : D → List ℕ → Type 0) (moment : D → ℕ) (left_since : D → ℕ → List ℕ → Type 0) → ((d : D) (c : List ℕ) → left_since d (moment d) c → images d c)
    → (d : D) (told : Option (List ℕ)) → (told ≡ told) × LeavesOnly moment left_since d d (images d)
unwritten_still images moment left_since only_now d told = (refl, started moment left_since d (images d) (only_now d))

pub standing_still : {D : Type 0} (images : D → List ℕ → Type 0) (moment : D → ℕ) (left_since : D → ℕ → List ℕ → Type 0) → ((d : D) (c : List ℕ) → left_since d (moment d) c → images d c)
    → (d : D) (told : Option (List ℕ)) (file : List ℕ) (P : Program) (T : Run) → told ≡ Some file → Only told (images d) → Stands file P T → Legal P T → LeavesOnly moment left_since d d (StandsForResumed P T)
standing_still images moment left_since only_now d told file P T same only stands legal =
    let only_file : Only (Some file) (images d) = subst (λ o. Only o (images d)) same only in
    started moment left_since d (StandsForResumed P T) (λ c now. record {
      program = P;
      run = T;
      how = inl refl;
      begins = begins_itself T;
      legal = legal;
      stands = subst (λ f. Stands f P T) (sym (only_file c (only_now d c now))) stands;
    })
