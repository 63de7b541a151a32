-- What a run leaves on the disk on which it is kept, and why it isn't kept (docs/journal.md, "Going on").
use Rattle.std.specs.Prelude.{◌≡◌, ◌⊎◌, ◌+◌, ◌≤◌, ℕ, List, Option, Some, length}
use Rattle.rand_pcg.specs.Lcg.{Lcg}
use Rattle.tau_sexpr.specs.Printing.{printed}
use Rattle.tau_tree.specs.declared.programs.Program.{Program}
use Rattle.tau_forms.specs.Printed as forms
use Rattle.tau_trace.specs.Run.{Run, len}
use Rattle.tau_legal.specs.Traces.{Legal}
use Rattle.tau_journal.specs.Disk.Bytes.{Only}
use Rattle.tau_journal.specs.Found.{IsBlank, IsCreateFault}
use Rattle.tau_journal.specs.Room.{most_bytes}
use Rattle.tau_book.specs.Onward.{BeginsWith}
use Rattle.tau_book.specs.SerialRun.{ComesAbout}
use Rattle.tau_book.specs.Alone.{ComesAfter}
use Rattle.tau_run_journal.specs.Standing.{opened, Stands}
use Rattle.tau_journaling.specs.Going.{HasNoRoom}

-- a disk tells bytes that stand for the program and the run, they are its one image, and they aren't too many
pub record IsKeptOn (bytes : Option (List ℕ)) (images : List ℕ → Type 0) (P : Program) (T : Run) : Type 0 where
  pub file : List ℕ
  pub told : bytes ≡ Some file
  pub stands : Stands file P T
  pub only : Only (Some file) images
  pub few : length file ≤ most_bytes

-- bytes stand for the program and a legal run of it that begins with this one
pub record StandsForLonger (P : Program) (T : Run) (file : List ℕ) : Type 0 where
  pub run : Run
  pub begins : BeginsWith T run
  pub legal : Legal P run
  pub stands : Stands file P run

-- there is no journal, or the bytes stand for the program and a legal run of it
abbrev pub IsBlankOrStands : Program → List ℕ → Type 0
IsBlankOrStands P file = IsBlank file ⊎ ((T : Run) × Stands file P T × Legal P T)

-- there is no journal, or the bytes stand for the program and a run with which this one begins
abbrev pub IsBlankOrFrontOf : Program → Run → List ℕ → Type 0
IsBlankOrFrontOf P U file = IsBlank file ⊎ ((T : Run) × BeginsWith T U × Stands file P T)

-- the run that one hand with so many jobs and this seed makes behind the steps of `start` comes to one with no more steps than the limit,
-- and this has a last step, which `start` hasn't, of whose record a disk of these bytes has no room
pub record HasNoRoomAfter (P : Program) (jobs seed limit : ℕ) (start : Run) (bytes : Option (List ℕ)) (at : ℕ) : Type 0 where
  pub run : Run
  pub waiting : List ℕ
  pub generator : Lcg
  pub comes_after : ComesAfter P jobs seed start run waiting generator
  pub legal : Legal P run
  pub within : len run ≤ limit
  pub no_room : HasNoRoom P start run bytes at

-- the serial run of the program with so many jobs and this seed comes to a run with no more steps than the limit, and this has a last
-- step of whose record a disk of these bytes has no room
pub record HasNoRoomInSerial (P : Program) (jobs seed limit : ℕ) (bytes : Option (List ℕ)) (at : ℕ) : Type 0 where
  pub run : Run
  pub generator : Lcg
  pub comes_about : ComesAbout P jobs seed run generator
  pub legal : Legal P run
  pub within : len run ≤ limit
  pub no_room : HasNoRoom P (opened P) run bytes at

-- how many bytes a journal of the program has that has no steps
abbrev pub first_size : Program → ℕ
first_size P = 6 + length (printed (forms.printed P))

-- the fault of keeping the serial run of the program on a disk of these bytes, which has those after the call: no journal is made of it,
-- or there is no room for the record of the run's next step
abbrev pub IsKeepFault : Program → ℕ → ℕ → ℕ → List ℕ → Option (List ℕ) → ℕ → ℕ → Type 0
IsKeepFault P jobs seed limit file after fault at = IsCreateFault (first_size P) file fault at
    ⊎ ((fault ≡ 8) × HasNoRoomInSerial P jobs seed limit after at)
