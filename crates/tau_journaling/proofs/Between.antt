-- What stands on a disk while a run goes on.
use Rattle.std.proofs.Common.{◌≡◌, ◌+◌, inl, inr, ℕ, List, length, Option, Some, None, sym, subst}
use Rattle.tau_tree.specs.declared.programs.Program.{Program}
use Rattle.tau_trace.specs.declared.step.Step.{Step}
use Rattle.tau_trace.specs.Run.{Run, appended}
use Rattle.tau_journal.specs.Disk.Moments.{LeavesOnly}
use Rattle.tau_journal.proofs.Moments.{weaker, joined}
use Rattle.tau_journal.specs.Records.{IsAtRest}
use Rattle.tau_journal.specs.Room.{IsTooLarge}
use Rattle.tau_journal.specs.declared.errors.JournalError.TheVariants.{Fault}
use Rattle.tau_run_journal.specs.Standing.{HasStepText, StandsAt, StandsForEither}
use Rattle.tau_run_journal.proofs.Kept.{leaves_at_first}
use Rattle.tau_rules.specs.System.{with_step}
use Rattle.tau_book.specs.Books.{Booked}
use Rattle.tau_book.specs.Onward.{BeginsWith}
use Rattle.tau_journaling.specs.Going.{StandsBetween, HasNoRoom}
use Rattle.tau_journaling.proofs.Onward.{begins_itself, begins_further, one_step_more}

module _ {D : Type 0} (images : D → List ℕ → Type 0) (moment : D → ℕ) (left_since : D → ℕ → List ℕ → Type 0) (P : Program) where
  between : (T U : Run) → BeginsWith T U → (c : List ℕ) → StandsForEither P T P U c → StandsBetween P T U c
  between T U more c (inl stands) = record { run = T; goes_on = begins_itself T; comes_to = more; stands = stands }
  between T U more c (inr stands) = record { run = U; goes_on = more; comes_to = begins_itself U; stands = stands }

  -- while a step is kept
  pub leaves_between : (T U : Run) → BeginsWith T U → (old new : D) → LeavesOnly moment left_since old new (StandsForEither P T P U) → LeavesOnly moment left_since old new (StandsBetween P T U)
  leaves_between T U more old new left = weaker moment left_since old new (StandsForEither P T P U) (StandsBetween P T U) (between T U more) left

  -- the same of the run of a book
  pub leaves_step : (b c : Booked) (s : Step) → c.system ≡ with_step b.system s → (U : Run) → U ≡ c.system.run → (old new : D) → LeavesOnly moment left_since old new (StandsForEither P b.system.run P U)
      → LeavesOnly moment left_since old new (StandsBetween P b.system.run c.system.run)
  leaves_step b c s made U is old new left =
      leaves_between b.system.run c.system.run (one_step_more b c s made) old new (subst (λ R. LeavesOnly moment left_since old new (StandsForEither P b.system.run P R)) is left)

  -- before the first call
  pub leaves_itself : ((d : D) (c : List ℕ) → left_since d (moment d) c → images d c) → (T U : Run) → BeginsWith T U → (d : D) (bytes : Option (List ℕ)) (gate : ℕ) → StandsAt bytes gate P T → IsAtRest bytes (images d) gate
      → LeavesOnly moment left_since d d (StandsBetween P T U)
  leaves_itself only_now T U more d bytes gate at rest = leaves_between T U more d d (leaves_at_first images moment left_since only_now P P T U d bytes gate at rest)

  -- one run of calls after another, in which the run goes on
  pub leaves_further : (S T U : Run) → BeginsWith S T → BeginsWith T U → (old mid new : D) → LeavesOnly moment left_since old mid (StandsBetween P S T) → LeavesOnly moment left_since mid new (StandsBetween P T U)
      → LeavesOnly moment left_since old new (StandsBetween P S U)
  leaves_further S T U earlier later old mid new one two =
      joined moment left_since old mid new (StandsBetween P S U)
      (weaker moment left_since old mid (StandsBetween P S T) (StandsBetween P S U) (λ c b. record { run = b.run; goes_on = b.goes_on; comes_to = begins_further b.run T U b.comes_to later; stands = b.stands }) one)
      (weaker moment left_since mid new (StandsBetween P T U) (StandsBetween P S U) (λ c b. record { run = b.run; goes_on = begins_further S T b.run earlier b.goes_on; comes_to = b.comes_to; stands = b.stands }) two)

  -- the same of what the disk stands for as they begin, of the same program
  pub leaves_more : (Q : Program) → Q ≡ P → (S T U : Run) → BeginsWith S T → BeginsWith T U → (old mid new : D) (told held : Option (List ℕ)) (a b : ℕ) → (StandsAt told a P S → StandsAt held b P T)
      → (StandsAt told a P S → LeavesOnly moment left_since old mid (StandsBetween P S T)) → (StandsAt held b Q T → LeavesOnly moment left_since mid new (StandsBetween Q T U))
      → StandsAt told a P S → LeavesOnly moment left_since old new (StandsBetween P S U)
  leaves_more Q same S T U earlier later old mid new told held a b stands one two at =
      leaves_further S T U earlier later old mid new (one at)
      (subst (λ R. LeavesOnly moment left_since mid new (StandsBetween R T U)) same (two (subst (λ R. StandsAt held b R T) (sym same) (stands at))))

-- what the disk stands for then
pub stands_more : (P Q : Program) → Q ≡ P → (S T U : Run) (told held now : Option (List ℕ)) (a b c : ℕ) → (StandsAt told a P S → StandsAt held b P T) → (StandsAt held b Q T → StandsAt now c Q U) → StandsAt told a P S → StandsAt now c P U
stands_more P Q same S T U told held now a b c one two at = subst (λ R. StandsAt now c R U) same (two (subst (λ R. StandsAt held b R T) (sym same) (one at)))

-- the fault of a disk that is too large
pub is_fault_8 : (bytes : Option (List ℕ)) (need fault at : ℕ) → IsTooLarge bytes need (Fault fault at) → fault ≡ 8
is_fault_8 None need fault at full = full
is_fault_8 (Some file) need fault at full = full.0

-- the disk has no room for the last step
pub no_room : (P : Program) (T U : Run) (s : Step) → U ≡ appended T s → (old new : Option (List ℕ)) (gate fault at : ℕ) (text : HasStepText T s) → IsTooLarge old (gate + 5 + length text.0 + 1) (Fault fault at) → new ≡ old → StandsAt old gate P T
    → HasNoRoom P T U new at
no_room P T U s last old new gate fault at text full same stands =
    let need = gate + 5 + length text.0 + 1 in
    record {
      before = T;
      begins = begins_itself T;
      step = s;
      run_is = last;
      text = text.0;
      is_text = text.1;
      gate = gate;
      stands = subst (λ bytes. StandsAt bytes gate P T) (sym same) stands;
      full = subst (λ bytes. IsTooLarge bytes need (Fault 8 at)) (sym same) (subst (λ n. IsTooLarge old need (Fault n at)) (is_fault_8 old need fault at full) full);
    }

-- nor, where it stood for the program and the run as calls began
pub no_room_more : (P Q : Program) → Q ≡ P → (S T U : Run) → BeginsWith S T → (told held now : Option (List ℕ)) (a b at : ℕ) → (StandsAt told a P S → StandsAt held b P T) → (StandsAt held b Q T → HasNoRoom Q T U now at) → StandsAt told a P S → HasNoRoom P S U now at
no_room_more P Q same S T U earlier told held now a b at one two stands =
    let full : HasNoRoom P T U now at = subst (λ R. HasNoRoom R T U now at) same (two (subst (λ R. StandsAt held b R T) (sym same) (one stands))) in
    record {
      before = full.before;
      begins = begins_further S T full.before earlier full.begins;
      step = full.step;
      run_is = full.run_is;
      text = full.text;
      is_text = full.is_text;
      gate = full.gate;
      stands = full.stands;
      full = full.full;
    }
