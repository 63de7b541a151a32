-- What contracts of inner functions say; no clause of a public call rests on these.
use Rattle.std.specs.Prelude.{◌≡◌, ◌⊎◌, ℕ, false, List, Some, Result, Ok, Err, IfOk, IfErr, IfSome, IsErrAnd}
use Rattle.std.specs.Io.KnownBytes.{Appends}
use Rattle.tau_io.specs.Put.{AppendsFront}
use Rattle.tau_tree.specs.declared.programs.Program.{Program}
use Rattle.tau_trace.specs.Run.{Run}
use Rattle.tau_legal.specs.Traces.{Legal}
use Rattle.tau_journal.specs.Disk.Bytes.{Only}
use Rattle.tau_journal.specs.Found.{IsBlank}
use Rattle.tau_run_journal.specs.Standing.{Stands}
use Rattle.tau_journaling.specs.Resumed.{StandsForResumed}
use Rattle.tau_command.specs.declared.commands.TextCommand.{TextCommand}
use Rattle.tau_output.specs.declared.outputs.Output.{Output}
use Rattle.tau_output.specs.declared.refusals.Wanted.{Wanted}
use Rattle.tau_output.specs.Faults.{reads_input, IsInputFault}
use Rattle.tau_output.specs.Asking.{AsksInVain}
use Rattle.tau_cli.specs.declared.statuses.Status.{Status}
use Rattle.tau_cli.specs.declared.statuses.Status.TheVariants.{Input, WriteFault, NoMemory}
use Rattle.tau_cli.specs.Status.{of_end, of_wanted}
use Rattle.tau_cli.specs.Effects.{Effect, DiskEffect, IsUnwritten}
use Rattle.tau_cli.specs.Output.{Writing, IsOutput, IsUnlessUnread, Stops}
use Rattle.tau_cli.specs.Texts.{IsBlankOrOfInput, IsKeptText, IsResumedText}
use Rattle.tau_cli.specs.Ends.{IsKeepRefusal, IsResumeRefusal, KeepRefusals, ResumeRefusals, ResumeStays}

-- the status with which a command ends that has this output and writes it whole, or that has none for a reason
abbrev pub status_of : Result Output Status → Status
status_of (Ok output) = of_end output.end
status_of (Err status) = status

-- a command with one text has this output, or hasn't for a reason
pub record Makes (Writes : Writing) (command : TextCommand) (source : Effect) (made : Result Output Status) : Type 0 where
  pub output : IfOk made (λ o. IsOutput Writes command source.before (of_end o.end) o.text.items)
  pub stops : IfErr made (Stops command source.before source.Failed)
  pub untouched : reads_input command ≡ false → source.Stayed
  pub faulty : (bytes : List ℕ) (fault at : ℕ) → source.before ≡ Some bytes → IsInputFault command bytes fault at
      → IsErrAnd made (λ status. IsUnlessUnread status (Input fault at))
  pub unasked : (bytes : List ℕ) (wanted : Wanted) → source.before ≡ Some bytes → AsksInVain command bytes wanted
      → IsErrAnd made (λ status. IsUnlessUnread status (of_wanted wanted))

-- a run was kept and has this text, or wasn't for a reason
pub record Keeps (jobs seed steps : ℕ) (source : Effect) (disk : DiskEffect) (made : Result Output Status) : Type 0 where
  pub is_status : IfErr made IsKeepRefusal
  pub refusals : KeepRefusals jobs seed steps source disk (status_of made)
  pub any_moment : IfSome disk.before (λ file. IsBlank file → Only disk.before disk.images_before → disk.Leaves (IsBlankOrOfInput source.before))
  pub held : IfSome disk.before (λ file. (¬ IsBlank file) → IsUnwritten disk)
  pub text : IfOk made (λ o. IsKeptText jobs seed steps source.before disk o.end o.text.items)

-- a run was gone on with and has this text, or wasn't for a reason
pub record Resumes (jobs seed steps : ℕ) (disk : DiskEffect) (made : Result Output Status) : Type 0 where
  pub is_status : IfErr made IsResumeRefusal
  pub refusals : ResumeRefusals jobs seed steps disk (status_of made)
  pub stays : ResumeStays disk
  pub any_moment : (file : List ℕ) (P : Program) (T : Run) → disk.before ≡ Some file → Only disk.before disk.images_before → Stands file P T → Legal P T
      → disk.Leaves (StandsForResumed P T)
  pub text : IfOk made (λ o. IsResumedText jobs seed steps disk o.end o.text.items)

-- an output was written, or a front of it, and nothing where there is none; and the status
abbrev pub Finishes : Result Output Status → Effect → Status → Type 0
Finishes (Ok o) sink status =
    ((status ≡ of_end o.end) × Appends sink.before sink.after o.text.items)
    ⊎ (((status ≡ WriteFault) × sink.Failed × AppendsFront sink.before sink.after o.text.items)
    ⊎ ((status ≡ NoMemory) × AppendsFront sink.before sink.after o.text.items))
Finishes (Err refusal) sink status = (status ≡ refusal) × sink.Stayed
