-- What comes of going on with the run for which a disk stands, and why nothing does (docs/journal.md, "Going on").
use Rattle.std.specs.Prelude.{◌≡◌, ◌⊎◌, ◌+◌, max, ℕ, Bool, List, Option, Some, IfSome, length}
use Rattle.tau_tree.specs.declared.programs.Program.{Program}
use Rattle.tau_tree.specs.Sound.{Sound}
use Rattle.tau_trace.specs.Run.{Run, len}
use Rattle.tau_legal.specs.Traces.{Legal, Complete}
use Rattle.tau_legal.specs.Ends.{EndsAt}
use Rattle.tau_journal.specs.Records.{going_on}
use Rattle.tau_revival.specs.Revival.{IsRevival}
use Rattle.tau_book.specs.Onward.{BeginsWith}
use Rattle.tau_book.specs.Alone.{IsRunAfter}
use Rattle.tau_run_journal.specs.Laws.{IsRunOf}
use Rattle.tau_run_journal.specs.Standing.{Stands, StandsAt}
use Rattle.tau_journaling.specs.Found.Faults.{IsResumeFault}
use Rattle.tau_journaling.specs.Found.Reviving.{IsReviveFault}
use Rattle.tau_journaling.specs.Kept.{HasNoRoomAfter}

-- of the program and the legal run that were found, where the run is complete, nothing else came; otherwise a revival of the
-- program, and the run of that which one hand with so many jobs and this seed makes behind the steps of the one that was found; it ends
-- at the steps that it may have, or that it had
pub record IsResumed (bytes : Option (List ℕ)) (jobs seed steps : ℕ) (Q : Program) (U : Run) (is_complete : Bool) : Type 0 where
  pub program : Program
  pub run : Run
  pub is_run : IsRunOf program run
  pub legal : Legal program run
  pub told : IfSome bytes (λ file. Stands file program run)
  pub how : (Complete program run × (Q ≡ program) × (U ≡ run)) ⊎ ((¬ Complete program run) × IsRevival program run Q × IsRunAfter Q jobs seed (max steps (len run)) run U)
  pub begins : BeginsWith run U
  pub sound : Sound Q
  pub ends : EndsAt (max steps (len run)) Q U is_complete

-- bytes stand for the program or its revival, and a legal run of it that begins with this one
pub record StandsForResumed (P : Program) (T : Run) (file : List ℕ) : Type 0 where
  pub program : Program
  pub run : Run
  pub how : (program ≡ P) ⊎ IsRevival P T program
  pub begins : BeginsWith T run
  pub legal : Legal program run
  pub stands : Stands file program run

-- bytes stand for a program and a run with which this one begins
abbrev pub StandsForFrontOf : Run → List ℕ → Type 0
StandsForFrontOf U file = (Q : Program) × (T : Run) × BeginsWith T U × Stands file Q T

-- why a run isn't gone on with for which a disk stands, with records up to the gate: the program isn't revived, or there is no room
-- for the record of the next step that one hand with so many jobs and this seed makes of its revival, which has no more steps than these
-- or than were found
abbrev pub IsGoneOnFault : Program → Run → ℕ → ℕ → ℕ → ℕ → Option (List ℕ) → Option (List ℕ) → ℕ → ℕ → Type 0
IsGoneOnFault P T jobs seed steps gate told after fault at = IsReviveFault P told (gate + 5 + length going_on + 1) fault at
    ⊎ ((fault ≡ 8) × (Q : Program) × IsRevival P T Q × HasNoRoomAfter Q jobs seed (max steps (len T)) T after at)

-- a disk of these bytes stands, with records up to the gate, for the program and a legal run of it that isn't complete
pub record IsUnfinished (file : List ℕ) (gate : ℕ) (P : Program) (T : Run) : Type 0 where
  pub stands : StandsAt (Some file) gate P T
  pub legal : Legal P T
  pub incomplete : ¬ Complete P T

-- a disk of these bytes stands so for a program that isn't revived, with this fault
pub record IsUnrevived (file : List ℕ) (fault at : ℕ) : Type 0 where
  pub program : Program
  pub run : Run
  pub gate : ℕ
  pub unfinished : IsUnfinished file gate program run
  pub unrevived : IsReviveFault program (Some file) (gate + 5 + length going_on + 1) fault at

-- the fault of going on from a disk of these bytes, which has those after the call: nothing is found to go on with, or a run that
-- isn't complete isn't gone on with
pub data IsResumeRunFault (jobs seed steps : ℕ) (file : List ℕ) (after : Option (List ℕ)) (fault at : ℕ) : Type 0 where
  in_finding : IsResumeFault file fault at → IsResumeRunFault jobs seed steps file after fault at
  in_going : (P : Program) (T : Run) (gate : ℕ) → IsUnfinished file gate P T → IsGoneOnFault P T jobs seed steps gate (Some file) after fault at → IsResumeRunFault jobs seed steps file after fault at
