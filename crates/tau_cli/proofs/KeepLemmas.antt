-- Why a run isn't kept, and what is written of one that was.
use Rattle.std.proofs.Common.{◌≡◌, ◌⊎◌, inl, inr, ℕ, ◌≤◌, ◌<◌, List, length, Option, Some, None, IfSome, Result, Ok, Err, refl, sym, subst, arith}
use Rattle.std.specs.Result.{IsErrAnd}
use Rattle.tau_io.specs.declared.reading.ReadError.{ReadError}
use Rattle.tau_io.specs.declared.reading.ReadError.TheVariants as reads
use Rattle.tau_tree.specs.declared.programs.Program.{Program}
use Rattle.tau_trace.specs.Run.{Run}
use Rattle.tau_text.specs.declared.errors.InputError.{InputError}
use Rattle.tau_text.specs.declared.errors.InputError.TheVariants as inputs
use Rattle.tau_text.specs.declared.faults.InputFault.TheVariants as faults
use Rattle.tau_text.specs.FaultNumbers.{fault_number}
use Rattle.tau_text.specs.Errors.{TellsInputFault}
use Rattle.tau_text.specs.Faults.{IsProgramFault}
use Rattle.tau_text.specs.Meaning.{IsProgram}
use Rattle.tau_text.proofs.FaultLemmas.{program_unique}
use Rattle.tau_journal.specs.Disk.Bytes.{Only}
use Rattle.tau_journal.specs.Disk.Moments.{LeavesOnly, IsUntouched}
use Rattle.tau_journal.proofs.Moments.{started, weaker}
use Rattle.tau_journal.specs.Found.{IsBlank, IsCreateFault, IsCreateNumber}
use Rattle.tau_journal.specs.Room.{IsFaultOrFailure}
use Rattle.tau_journal.specs.declared.errors.JournalError.{JournalError}
use Rattle.tau_journal.specs.declared.errors.JournalError.TheVariants as journals
use Rattle.tau_run_journal.proofs.Finds.{no_failure}
use Rattle.tau_book.specs.SerialRun.{IsSerialRun}
use Rattle.tau_journaling.specs.Kept.{IsKeptOn, IsBlankOrStands, IsBlankOrFrontOf, first_size, IsKeepFault}
use Rattle.tau_command.specs.declared.commands.TextCommand.TheVariants.{Run as run}
use Rattle.tau_output.specs.declared.outputs.Output.{Output}
use Rattle.tau_output.specs.Faults.{input_limit, IsInputFault, too_long, within}
use Rattle.tau_output.specs.Runs.{RunsAs, RunsBy}
use Rattle.tau_cli.specs.declared.statuses.Status.{Status}
use Rattle.tau_cli.specs.declared.statuses.Status.TheVariants.{Input, ReadFault, NoMemory, Journal, DiskFault}
use Rattle.tau_cli.specs.Status.{of_end, of_read_error, of_input_error, of_journal_error}
use Rattle.tau_cli.specs.Output.{AreLeft, IsTooLong, IsUnlessUnread}
use Rattle.tau_cli.specs.Effects.{Effect, DiskEffect, IsUnwritten}
use Rattle.tau_cli.proofs.OutputLemmas.{left_told, not_too_long}
use Rattle.tau_cli.specs.Texts.{SpellsProgram, IsBlankOrOfInput, IsKeptText}
use Rattle.tau_cli.specs.Ends.{IsTextStatus, IsKeepRefusal, IsFaultyProgram, IsUnkept, IsUnlessFailed, KeepRefusals}
use Rattle.tau_cli.specs.Inner.{Keeps}
use Rattle.tau_cli.proofs.StatusLemmas.{if_some_at, another, text_status, failure_told, fault_of_status, failure_of_status, journal_never}

module _ (jobs seed steps : ℕ) (source : Effect) (disk : DiskEffect) where
  -- an input with a fault is refused with this status, and a program that isn't kept
  abbrev pub TellsFaulty : Status → Type 0
  TellsFaulty s = (bytes : List ℕ) (fault at : ℕ) → source.before ≡ Some bytes → IsInputFault (run 1 jobs seed steps) bytes fault at → IsUnlessUnread s (Input fault at)

  abbrev pub TellsUnkept : Status → Type 0
  TellsUnkept s = (bytes file : List ℕ) (P : Program) (fault at : ℕ) → source.before ≡ Some bytes → length bytes ≤ input_limit → IsProgram bytes P
      → disk.before ≡ Some file → IsCreateFault (first_size P) file fault at → (s ≡ ReadFault) ⊎ IsUnlessFailed s (Journal fault at)

  abbrev Refuses : Status → Type 0
  Refuses s = KeepRefusals jobs seed steps source disk s

  -- what a crash leaves
  abbrev pub LeavesKept : Type 0
  LeavesKept = IfSome disk.before (λ file. IsBlank file → Only disk.before disk.images_before → disk.Leaves (IsBlankOrOfInput source.before))

  -- a disk that isn't blank stays
  abbrev pub HeldStays : Type 0
  HeldStays = IfSome disk.before (λ file. (¬ IsBlank file) → IsUnwritten disk)

  -- a status of a text
  pub quiet : (s : Status) → IsTextStatus s → TellsFaulty s → TellsUnkept s → Refuses s
  quiet s is faulty unkept = record {
    read_fault = λ e. absurd (another s ReadFault is (λ x. x) e);
    input = λ fault at e. absurd (another s (Input fault at) is (λ x. x) e);
    faulty = faulty;
    unread = λ e. absurd (another s ReadFault is (λ x. x) e);
    untouched = λ fault at e. absurd (another s (Input fault at) is (λ x. x) e);
    journal = λ fault at e. absurd (another s (Journal fault at) is (λ x. x) e);
    among = λ fault at e. absurd (another s (Journal fault at) is (λ x. x) e);
    unkept = unkept;
    held = λ at e. absurd (another s (Journal 7 at) is (λ x. x) e);
    disk_fault = λ e. absurd (another s DiskFault is (λ x. x) e);
  }

  pub no_memory : Refuses NoMemory
  no_memory = quiet NoMemory tt (λ bytes fault at told h. inr (inr refl)) (λ bytes file P fault at told few is before h. inr (inr (inr refl)))

  -- a fault of the input
  input_refuses : (fault at : ℕ) → IsFaultyProgram jobs seed steps source.before fault at → disk.Stayed → TellsFaulty (Input fault at) → TellsUnkept (Input fault at) → Refuses (Input fault at)
  input_refuses fault at is stayed faulty unkept = record {
    read_fault = λ e. absurd (cc);
    input = λ f a e. same f a e;
    faulty = faulty;
    unread = λ e. absurd (cc);
    untouched = λ f a e. stayed;
    journal = λ f a e. absurd (cc);
    among = λ f a e. absurd (cc);
    unkept = unkept;
    held = λ a e. absurd (cc);
    disk_fault = λ e. absurd (cc);
  } where
    same : (f a : ℕ) → Input fault at ≡ Input f a → IsFaultyProgram jobs seed steps source.before f a
    same f a e =
        let number : fault ≡ f = cc in
        let place : at ≡ a = cc in
        subst (λ x. IsFaultyProgram jobs seed steps source.before f x) place (subst (λ x. IsFaultyProgram jobs seed steps source.before x at) number is)

  -- too many bytes, or a read that failed
  pub unread : (e : ReadError) → (e ≡ reads.ReadFault → source.Failed) → (e ≡ reads.TooLong → IsTooLong source.before) → disk.Stayed → Refuses (of_read_error e)
  unread reads.ReadFault failed long stayed = record {
    read_fault = λ e. failed refl;
    input = λ fault at e. absurd (cc);
    faulty = λ bytes fault at told h. inr (inl refl);
    unread = λ e. stayed;
    untouched = λ fault at e. stayed;
    journal = λ fault at e. absurd (cc);
    among = λ fault at e. absurd (cc);
    unkept = λ bytes file P fault at told few is before h. inl refl;
    held = λ at e. absurd (cc);
    disk_fault = λ e. absurd (cc);
  }
  unread reads.TooLong failed long stayed =
      let left = long refl in
      input_refuses (fault_number faults.TooLong) input_limit
      (record { bytes = left.bytes; are_left = left.are_left; has_fault = too_long refl left.many refl refl }) stayed told
      (λ bytes file P fault at is few means before h. absurd (not_too_long source.before bytes is few left)) where
        told : TellsFaulty (Input (fault_number faults.TooLong) input_limit)
        told bytes fault at is (too_long reads many number place) = let same : Input (fault_number faults.TooLong) input_limit ≡ Input fault at = cc in inl same
        told bytes fault at is (within few h) = absurd (not_too_long source.before bytes is few (long refl))
  unread reads.NoMemory failed long stayed = no_memory

  -- the bytes that were read
  module _ (bytes : List ℕ) (are_left : AreLeft source.before bytes) (few : length bytes ≤ input_limit) where
    read_so : (other : List ℕ) → source.before ≡ Some other → other ≡ bytes
    read_so other told = sym (left_told source.before bytes other are_left told)

    -- a fault of bytes that aren't too many is one of their forms
    fault_read : (other : List ℕ) (fault at : ℕ) → source.before ≡ Some other → IsInputFault (run 1 jobs seed steps) other fault at → IsProgramFault bytes fault at
    fault_read other fault at told (too_long reads many number place) =
        let many_read : input_limit < length bytes = subst (λ b. input_limit < length b) (read_so other told) many in
        absurd (omega (arith, many_read, few))
    fault_read other fault at told (within l h) = subst (λ b. IsProgramFault b fault at) (read_so other told) h

    -- which spell no program
    pub misspelled : (e : InputError) → TellsInputFault (IsProgramFault bytes) e → disk.Stayed → Refuses (of_input_error e)
    misspelled inputs.NoMemory tells stayed = no_memory
    misspelled (inputs.Fault fault at) tells stayed =
        input_refuses fault at (record { bytes = bytes; are_left = are_left; has_fault = within few tells }) stayed told
        (λ other file P f a is l means before h. absurd ((program_unique bytes).not_both P fault at (subst (λ b. IsProgram b P) (read_so other is) means) tells)) where
          told : TellsFaulty (Input fault at)
          told other f a is h =
              let once = (program_unique bytes).one_fault fault at f a tells (fault_read other f a is h) in
              let number : fault ≡ f = once.0 in
              let place : at ≡ a = once.1 in
              let same : Input fault at ≡ Input f a = cc in
              inl same

    -- and which spell one
    module _ (P : Program) (spelled : IsProgram bytes P) where
      pub spells : SpellsProgram source.before P
      spells = record { bytes = bytes; are_left = are_left; few = few; spelled = spelled }

      never_faulty : (s : Status) → TellsFaulty s
      never_faulty s other fault at told h = absurd ((program_unique bytes).not_both P fault at spelled (fault_read other fault at told h))

      same_program : (other : List ℕ) (Q : Program) → source.before ≡ Some other → IsProgram other Q → Q ≡ P
      same_program other Q told means = (program_unique bytes).one_meaning Q P (subst (λ b. IsProgram b Q) (read_so other told) means) spelled

      pub weaker_leaves : {D : Type 0} (images : D → List ℕ → Type 0) (moment : D → ℕ) (left_since : D → ℕ → List ℕ → Type 0) (old new : D) (told : Option (List ℕ))
          → IfSome told (λ file. IsBlank file → Only told (images old) → LeavesOnly moment left_since old new (IsBlankOrStands P))
          → IfSome told (λ file. IsBlank file → Only told (images old) → LeavesOnly moment left_since old new (IsBlankOrOfInput source.before))
      weaker_leaves images moment left_since old new None left = tt
      weaker_leaves images moment left_since old new (Some file) left =
          λ blank only. weaker moment left_since old new (IsBlankOrStands P) (IsBlankOrOfInput source.before) of_input (left blank only) where
            of_input : (c : List ℕ) → IsBlankOrStands P c → IsBlankOrOfInput source.before c
            of_input c (inl blank) = inl blank
            of_input c (inr (T, stands, legal)) = inr (P, T, spells, stands, legal)

      -- no journal is made, or it has no room
      module _ (X : Type 0) (e : JournalError)
          (fault_is : (fault at : ℕ) → e ≡ journals.Fault fault at → IfSome disk.before (λ file. IsKeepFault P jobs seed steps file disk.after fault at))
          (faulty : IfSome disk.before (λ file. (fault at : ℕ) → IsCreateFault (first_size P) file fault at → IsFaultOrFailure {X = X} fault at (Err e)))
          (among : (fault at : ℕ) → e ≡ journals.Fault fault at → IsCreateNumber fault)
          (unwritten : (at : ℕ) → e ≡ journals.Fault 7 at → IsUnwritten disk) (failed : e ≡ journals.DiskFault → disk.Failed) where
        unkept_so : (told : Option (List ℕ)) (fault at : ℕ) → IfSome told (λ file. IsKeepFault P jobs seed steps file disk.after fault at) → IfSome told (λ file. IsUnkept jobs seed steps source.before file disk.after fault at)
        unkept_so None fault at is = tt
        unkept_so (Some file) fault at is = (P, spells, is)

        pub unkept : Refuses (of_journal_error e)
        unkept = record {
          read_fault = λ is. absurd (journal_never e ReadFault (λ x. x) is);
          input = λ fault at is. absurd (journal_never e (Input fault at) (λ x. x) is);
          faulty = never_faulty (of_journal_error e);
          unread = λ is. absurd (journal_never e ReadFault (λ x. x) is);
          untouched = λ fault at is. absurd (journal_never e (Input fault at) (λ x. x) is);
          journal = λ fault at is. unkept_so disk.before fault at (fault_is fault at (fault_of_status e fault at is));
          among = λ fault at is. among fault at (fault_of_status e fault at is);
          unkept = λ other file Q fault at told l means before h.
              inr (failure_told {X = X} e fault at (if_some_at disk.before (λ f. (n a : ℕ) → IsCreateFault (first_size P) f n a → IsFaultOrFailure {X = X} n a (Err e)) file before faulty fault at
              (subst (λ R. IsCreateFault (first_size R) file fault at) (same_program other Q told means) h)));
          held = λ at is. unwritten at (fault_of_status e 7 at is);
          disk_fault = λ is. failed (failure_of_status e is);
        }

      -- the run was kept
      module _ (X : Type 0) (x : X) (T : Run) (o : Output)
          (faulty : IfSome disk.before (λ file. (fault at : ℕ) → IsCreateFault (first_size P) file fault at → IsFaultOrFailure {X = X} fault at (Ok x)))
          (serial : IsSerialRun P jobs seed steps T) (r : RunsAs steps bytes o.end o.text.items) (program : r.program ≡ P) (run_is : r.run ≡ T)
          (kept : IfSome disk.before (λ _. IsKeptOn disk.after disk.images_after P T))
          (front : IfSome disk.before (λ file. IsBlank file → Only disk.before disk.images_before → disk.Leaves (IsBlankOrFrontOf P T))) where
        runs_by : RunsBy 1 jobs seed steps bytes o.end o.text.items
        runs_by = record {
          runs = r;
          serial = λ l. subst (λ (Q : Program). IsSerialRun Q jobs seed steps r.run) (sym program) (subst (λ (U : Run). IsSerialRun P jobs seed steps U) (sym run_is) serial);
        }

        kept_text : IsKeptText jobs seed steps source.before disk o.end o.text.items
        unfolding runs_by
        kept_text = record {
          bytes = bytes;
          are_left = are_left;
          few = few;
          runs = runs_by;
          kept = subst (λ (Q : Program). IfSome disk.before (λ _. IsKeptOn disk.after disk.images_after Q r.run)) (sym program)
              (subst (λ (U : Run). IfSome disk.before (λ _. IsKeptOn disk.after disk.images_after P U)) (sym run_is) kept);
          front = subst (λ (Q : Program). IfSome disk.before (λ file. IsBlank file → Only disk.before disk.images_before → disk.Leaves (IsBlankOrFrontOf Q r.run))) (sym program)
              (subst (λ (U : Run). IfSome disk.before (λ file. IsBlank file → Only disk.before disk.images_before → disk.Leaves (IsBlankOrFrontOf P U))) (sym run_is) front);
        }

        pub keeps : LeavesKept → HeldStays → Keeps jobs seed steps source disk (Ok o)
        keeps left held = record {
          is_status = tt;
          refusals = quiet (of_end o.end) (text_status steps r.program r.run o.end r.ends) (never_faulty (of_end o.end))
              (λ other file Q fault at told l means before h.
              absurd (no_failure x fault at (if_some_at disk.before (λ f. (n a : ℕ) → IsCreateFault (first_size P) f n a → IsFaultOrFailure {X = X} n a (Ok x)) file before faulty fault at
              (subst (λ R. IsCreateFault (first_size R) file fault at) (same_program other Q told means) h))));
          any_moment = left;
          held = held;
          text = kept_text;
        }

  -- no text came of it
  pub keeps_not : (made : Result Output Status) (e : Status) → IsErrAnd made (λ s. s ≡ e) → IsKeepRefusal e → Refuses e → LeavesKept → HeldStays → Keeps jobs seed steps source disk made
  keeps_not (Ok o) e h is refuses left held = absurd h
  keeps_not (Err s) e h is refuses left held =
      subst (λ x. Keeps jobs seed steps source disk (Err x)) (sym h) (record { is_status = is; refusals = refuses; any_moment = left; held = held; text = tt })

pub read_refuses : (e : ReadError) → IsKeepRefusal (of_read_error e)
read_refuses reads.ReadFault = tt
read_refuses reads.TooLong = tt
read_refuses reads.NoMemory = tt

pub program_refuses : (e : InputError) → IsKeepRefusal (of_input_error e)
program_refuses (inputs.Fault fault at) = tt
program_refuses inputs.NoMemory = tt

-- a disk that was not touched
pub blank_still : {D : Type 0} (images : D → List ℕ → Type 0) (moment : D → ℕ) (left_since : D → ℕ → List ℕ → Type 0) → ((d : D) (c : List ℕ) → left_since d (moment d) c → images d c)
    → (d : D) (left told : Option (List ℕ)) → IfSome told (λ file. IsBlank file → Only told (images d) → LeavesOnly moment left_since d d (IsBlankOrOfInput left))
blank_still images moment left_since only_now d left None = tt
blank_still images moment left_since only_now d left (Some file) =
    λ blank only. started moment left_since d (IsBlankOrOfInput left) (λ c now. inl (subst IsBlank (sym (only c (only_now d c now))) blank))

pub held_still : {D : Type 0} (images : D → List ℕ → Type 0) (moment : D → ℕ) (left_since : D → ℕ → List ℕ → Type 0) → ((d : D) (c : List ℕ) → left_since d (moment d) c → images d c)
    → (d : D) (told : Option (List ℕ)) → IfSome told (λ file. (¬ IsBlank file) → (told ≡ told) × LeavesOnly moment left_since d d (images d))
held_still images moment left_since only_now d None = tt
held_still images moment left_since only_now d (Some file) = λ held. (refl, started moment left_since d (images d) (only_now d))

-- a disk to which nothing was written
pub unwritten_so : {D : Type 0} (bytes : D → Option (List ℕ)) (images : D → List ℕ → Type 0) (moment : D → ℕ) (left_since : D → ℕ → List ℕ → Type 0) (old new : D)
    → IsUntouched bytes images moment left_since old new → (bytes new ≡ bytes old) × LeavesOnly moment left_since old new (images old)
unwritten_so bytes images moment left_since old new u = (u.same, u.leaves)

pub held_so : {D : Type 0} (bytes : D → Option (List ℕ)) (images : D → List ℕ → Type 0) (moment : D → ℕ) (left_since : D → ℕ → List ℕ → Type 0) (old new : D) (told : Option (List ℕ))
    → IfSome told (λ file. (¬ IsBlank file) → IsUntouched bytes images moment left_since old new)
    → IfSome told (λ file. (¬ IsBlank file) → (bytes new ≡ bytes old) × LeavesOnly moment left_since old new (images old))
held_so bytes images moment left_since old new None untouched = tt
held_so bytes images moment left_since old new (Some file) untouched = λ held. unwritten_so bytes images moment left_since old new (untouched held)
