-- What `keep` and `resume` write, and for what the disk then stands (docs/journal.md, "Commands").
use Rattle.std.specs.Prelude.{◌≡◌, ◌⊎◌, ◌≤◌, ℕ, max, Bool, List, Option, IfSome, length}
use Rattle.std.specs.Io.KnownBytes.{Appends}
use Rattle.tau_sexpr.specs.Printing.{printed}
use Rattle.tau_tree.specs.declared.programs.Program.{Program}
use Rattle.tau_forms.specs.Printed as forms
use Rattle.tau_trace.specs.Run.{Run, len}
use Rattle.tau_legal.specs.Traces.{Legal}
use Rattle.tau_text.specs.Meaning.{IsProgram}
use Rattle.tau_io.specs.Put.{AppendsFront}
use Rattle.tau_journal.specs.Disk.Bytes.{Only}
use Rattle.tau_journal.specs.Found.{IsBlank}
use Rattle.tau_run_journal.specs.Standing.{Stands}
use Rattle.tau_journaling.specs.Kept.{IsKeptOn, IsBlankOrFrontOf}
use Rattle.tau_journaling.specs.Resumed.{IsResumed, StandsForFrontOf}
use Rattle.tau_output.specs.declared.outputs.End.{End}
use Rattle.tau_output.specs.Faults.{input_limit}
use Rattle.tau_output.specs.Runs.{RunsAs, RunsBy}
use Rattle.tau_cli.specs.declared.statuses.Status.{Status}
use Rattle.tau_cli.specs.declared.statuses.Status.TheVariants.{WriteFault, NoMemory}
use Rattle.tau_cli.specs.Status.{of_end, IsRefusal, IsResult}
use Rattle.tau_cli.specs.Output.{AreLeft}
use Rattle.tau_cli.specs.Effects.{Effect, DiskEffect}

-- the bytes that a source had left, which aren't too many, spell this program
pub record SpellsProgram (left : Option (List ℕ)) (P : Program) : Type 0 where
  pub bytes : List ℕ
  pub are_left : AreLeft left bytes
  pub few : length bytes ≤ input_limit
  pub spelled : IsProgram bytes P

-- there is no journal, or one of the program that the bytes of a source spell and of a legal run of it
abbrev pub IsBlankOrOfInput : Option (List ℕ) → List ℕ → Type 0
IsBlankOrOfInput left file = IsBlank file ⊎ ((P : Program) × (T : Run) × SpellsProgram left P × Stands file P T × Legal P T)

-- `keep` with these numbers writes this text for the bytes that a source had left, and ends so
pub record IsKeptText (jobs seed steps : ℕ) (left : Option (List ℕ)) (disk : DiskEffect) (end : End) (text : List ℕ) : Type 0 where
  pub bytes : List ℕ
  pub are_left : AreLeft left bytes
  pub few : length bytes ≤ input_limit
  -- it is what `run` by one worker writes for them: the run is the serial one
  pub runs : RunsBy 1 jobs seed steps bytes end text
  -- the disk then stands for the program and the run, whatever crash comes
  pub kept : IfSome disk.before (λ _. IsKeptOn disk.after disk.images_after runs.runs.program runs.runs.run)
  -- and a crash at any moment of the call leaves a blank disk, or one that stands for the program and a front of the run
  pub front : IfSome disk.before (λ file. IsBlank file → Only disk.before disk.images_before → disk.Leaves (IsBlankOrFrontOf runs.runs.program runs.runs.run))

-- `resume` with these numbers writes this text, and ends so
pub record IsResumedText (jobs seed steps : ℕ) (disk : DiskEffect) (end : End) (text : List ℕ) : Type 0 where
  -- what came of going on: the program and the run that were found, or its revival and the run that one hand with so many jobs and this
  -- seed makes behind it
  pub program : Program
  pub run : Run
  pub is_complete : Bool
  pub resumed : IsResumed disk.before jobs seed steps program run is_complete
  -- the text is that of the two, with as many steps at most as are told or were found
  pub runs : RunsAs (max steps (len resumed.run)) (printed (forms.printed program)) end text
  pub program_is : runs.program ≡ program
  pub run_is : runs.run ≡ run
  -- the disk then stands for the program and the run, whatever crash comes
  pub kept : IfSome disk.before (λ _. IsKeptOn disk.after disk.images_after program run)
  -- and a crash at any moment of the call leaves it standing for a front of the run
  pub front : IfSome disk.before (λ _. Only disk.before disk.images_before → disk.Leaves (StandsForFrontOf run))

-- of such a text the sink holds by the status, more than before: nothing after a refusal; the whole, or a front where a write
-- failed; and nothing or a front where memory ran out
pub record WritesText (IsText : End → List ℕ → Type 0) (sink : Effect) (status : Status) : Type 0 where
  pub unwritten : IsRefusal status → sink.Stayed
  pub written : IsResult status
      → (end : End) × (text : List ℕ) × (status ≡ of_end end) × IsText end text × Appends sink.before sink.after text
  pub write_fault : status ≡ WriteFault → sink.Failed
  pub front : status ≡ WriteFault → (end : End) × (text : List ℕ) × IsText end text × AppendsFront sink.before sink.after text
  pub no_memory : status ≡ NoMemory
      → sink.Stayed ⊎ ((end : End) × (text : List ℕ) × IsText end text × AppendsFront sink.before sink.after text)
