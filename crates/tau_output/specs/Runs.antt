-- What the command `run` writes.
use Rattle.std.specs.Prelude.{◌≡◌, ◌⊎◌, ℕ, ◌≤◌, List, Some, All}
use Rattle.tau_sexpr.specs.Tree.{Tree}
use Rattle.tau_tree.specs.declared.programs.Program.{Program}
use Rattle.tau_tree.specs.Sound.{Sound}
use Rattle.tau_trace.specs.declared.step.Step.TheVariants.{Take, Drop, Fall, Checkpoint, Hold, Heed}
use Rattle.tau_trace.specs.Run.{Run, len, step_at}
use Rattle.tau_trace.specs.Known.{WellFormed}
use Rattle.tau_past.specs.Decisions.{Verdict, takes, drops, falls, Free}
use Rattle.tau_past.specs.Safety.{Safe}
use Rattle.tau_legal.specs.Traces.{Legal, Complete}
use Rattle.tau_report.specs.Report.{IsSavedForm, counts_form}
use Rattle.tau_text.specs.RunText.{IsRunText, IsReadBack}
use Rattle.tau_book.specs.SerialRun.{IsSerialRun}
use Rattle.tau_text.specs.Meaning.{IsProgram}
use Rattle.tau_output.specs.declared.outputs.End.{End}
use Rattle.tau_output.specs.declared.outputs.End.TheVariants.{Done, Stopped}

-- a run ends as Done where it is complete, with at most as many steps as the limit says, and as Stopped where it has exactly as
-- many and is not complete
abbrev pub EndsAs : ℕ → Program → Run → End → Type 0
EndsAs limit P T Done = Complete P T × (len T ≤ limit)
EndsAs limit P T Stopped = (¬ Complete P T) × (len T ≡ limit)
EndsAs limit P T end = ⊥

-- what its transactor had heard, and for a receipt also what the message had heard, decides each of these steps exactly
pub record IsDecided (T : Run) : Type 0 where
  -- who checkpoints is free, and who holds back its checkpoint isn't
  pub checkpoints : (t k : ℕ) → step_at T k ≡ Some (Checkpoint t) → Free T t k
  pub holds : (t k : ℕ) → step_at T k ≡ Some (Hold t) → ¬ Free T t k
  -- a notice is heeded where its verdict is that it can be taken
  pub heeds : (t m k : ℕ) → step_at T k ≡ Some (Heed t m) → Verdict T t k m takes
  -- a message is taken, is discarded or forces a fall as its verdict says
  pub takes : (t m k : ℕ) → step_at T k ≡ Some (Take t m) → Verdict T t k m takes
  pub drops : (t m k : ℕ) → step_at T k ≡ Some (Drop t m) → Verdict T t k m drops
  pub falls : (t m k : ℕ) → step_at T k ≡ Some (Fall t m) → Verdict T t k m falls

-- a line of a report: the counts, or for some transactor the value that it saved with the interval before its present one, which
-- is its state at a Checkpoint or its opening state
abbrev pub IsReportLine : Program → Run → Tree → Type 0
IsReportLine P T form = (form ≡ counts_form T) ⊎ ((t : ℕ) × IsSavedForm P T t form)

-- for an input of these bytes `run`, with so many steps at most, writes this text and ends so
pub record RunsAs (steps : ℕ) (bytes : List ℕ) (end : End) (text : List ℕ) : Type 0 where
  -- there is a program, which is the one that the bytes spell, and sound
  pub program : Program
  pub spelled : IsProgram bytes program
  pub sound : Sound program
  -- there is a run, each step of which names what exists before it
  pub run : Run
  pub well_formed : WellFormed run
  -- the text is the run text of the two
  pub is_text : IsRunText program run text
  -- and both can be read back from it
  pub read_back : IsReadBack program run text
  -- each step of the run is legal after the steps before it
  pub legal : Legal program run
  -- with Done the run is complete and has at most so many steps; with Stopped it has exactly so many and is not complete
  pub ends : EndsAs steps program run end
  -- no checkpoint's causal past, found from the whole list of steps, holds a point that is rolled back anywhere in it
  pub safe : Safe run
  -- each Checkpoint, Hold, Take, Drop, Fall and Heed is decided exactly by what was heard
  pub decided : IsDecided run
  -- each value on a saved line of the report was saved by a Checkpoint or is an opening state
  pub saved : All (IsReportLine program run) is_text.are.report

-- as so many workers run it, each with room for so many jobs, from this seed: with one worker alone the run is the serial one
pub record RunsBy (workers jobs seed steps : ℕ) (bytes : List ℕ) (end : End) (text : List ℕ) : Type 0 where
  pub runs : RunsAs steps bytes end text
  pub serial : workers ≤ 1 → IsSerialRun runs.program jobs seed steps runs.run
