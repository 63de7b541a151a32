-- What the top call does, by the command that the words name and the status with which it ends; and the process, by the number with
-- which it exits.
use Rattle.std.specs.Prelude.{◌≡◌, ◌≢◌, ◌⊎◌, ◌≤◌, ℕ, false, List, length, Option, Some, None, IfSome, Result, Ok, Err}
use Rattle.std.specs.Io.KnownBytes.{Appends}
use Rattle.tau_io.specs.Put.{AppendsFront}
use Rattle.tau_tree.specs.declared.programs.Program.{Program}
use Rattle.tau_trace.specs.Run.{Run}
use Rattle.tau_legal.specs.Traces.{Legal, Complete}
use Rattle.tau_text.specs.Meaning.{IsProgram}
use Rattle.tau_journal.specs.Disk.Bytes.{Only}
use Rattle.tau_journal.specs.Found.{IsBlank, IsCreateFault, IsCreateNumber}
use Rattle.tau_journal.specs.Room.{most_bytes}
use Rattle.tau_run_journal.specs.Standing.{Stands}
use Rattle.tau_journaling.specs.Found.Faults.{IsResumeFault, IsResumeNumber}
use Rattle.tau_journaling.specs.Kept.{first_size, IsKeepFault}
use Rattle.tau_journaling.specs.Resumed.{StandsForResumed, IsUnrevived, IsResumeRunFault}
use Rattle.tau_command.specs.declared.commands.Command.{Command}
use Rattle.tau_command.specs.declared.commands.Command.TheVariants.{Keep, Resume, Text}
use Rattle.tau_command.specs.declared.commands.TextCommand.{TextCommand}
use Rattle.tau_command.specs.declared.commands.TextCommand.TheVariants.{Run as run}
use Rattle.tau_command.specs.declared.commands.WordsError.{WordsError}
use Rattle.tau_command.specs.Commands.{command_of}
use Rattle.tau_output.specs.Faults.{input_limit, reads_input, IsInputFault}
use Rattle.tau_output.specs.Asking.{AsksInVain}
use Rattle.tau_output.specs.declared.refusals.Wanted.{Wanted}
use Rattle.tau_cli.specs.declared.statuses.Status.{Status}
use Rattle.tau_cli.specs.declared.statuses.Status.TheVariants.{Done, Stopped, Words, Input, ReadFault, WriteFault, NoMemory, Journal, DiskFault}
use Rattle.tau_cli.specs.Status.{number_of, of_wanted, of_words_error, IsRefusal, IsResult, TellsOfDisk}
use Rattle.tau_cli.specs.Effects.{Effect, DiskEffect, IsUnwritten}
use Rattle.tau_cli.specs.Output.{Writing, AreLeft, IsEndOf, IsOutput, IsFaulty, IsUnasked, IsUnlessUnread}
use Rattle.tau_cli.specs.Texts.{SpellsProgram, IsBlankOrOfInput, IsKeptText, IsResumedText, WritesText}

-- ---- a command with one text

-- what a call for such a command did that ended with this status
pub record TextEnds (Writes : Writing) (command : TextCommand) (source sink : Effect) (status : Status) : Type 0 where
  -- the words name a command, and it has no disk
  pub words : status ≢ Words
  pub no_disk : ¬ TellsOfDisk status
  -- reading failed; `gen` and `drill` read nothing
  pub read_fault : status ≡ ReadFault → source.Failed
  pub untouched : reads_input command ≡ false → source.Stayed × (status ≢ ReadFault)
  -- the input has a fault
  pub input : (fault at : ℕ) → status ≡ Input fault at → IsFaulty command source.before fault at
  pub faulty : (bytes : List ℕ) (fault at : ℕ) → source.before ≡ Some bytes → IsInputFault command bytes fault at
      → IsUnlessUnread status (Input fault at)
  -- `why`, `draw` or `storm` asks in vain: for a place, for a behaviour that is claimed, or for an outcome
  pub lacking : (wanted : Wanted) → status ≡ of_wanted wanted → IsUnasked command source.before wanted
  pub unasked : (bytes : List ℕ) (wanted : Wanted) → source.before ≡ Some bytes → AsksInVain command bytes wanted
      → IsUnlessUnread status (of_wanted wanted)
  -- after each of these nothing was written
  pub unwritten : IsRefusal status → sink.Stayed
  -- the whole text of the command for the input was written
  pub written : IsResult status
      → (text : List ℕ) × IsOutput Writes command source.before status text × Appends sink.before sink.after text
  -- a front of such a text was written
  pub write_fault : status ≡ WriteFault → sink.Failed
  pub front : status ≡ WriteFault
      → (end : Status) × (text : List ℕ) × IsOutput Writes command source.before end text × AppendsFront sink.before sink.after text
  pub no_memory : status ≡ NoMemory
      → sink.Stayed ⊎ ((end : Status) × (text : List ℕ) × IsOutput Writes command source.before end text × AppendsFront sink.before sink.after text)
  -- where nothing is wrong, the command ends as it should, or memory ran out
  pub complete : (bytes : List ℕ) → source.before ≡ Some bytes
      → ((fault at : ℕ) → ¬ IsInputFault command bytes fault at) → ¬ source.Failed → ¬ sink.Failed
      → IsEndOf command status ⊎ (status ≡ NoMemory)

-- ---- keep

-- a status with which `keep` may end before it writes
abbrev pub IsKeepRefusal : Status → Type 0
IsKeepRefusal (Input fault at) = Unit {0}
IsKeepRefusal ReadFault = Unit {0}
IsKeepRefusal NoMemory = Unit {0}
IsKeepRefusal (Journal fault at) = Unit {0}
IsKeepRefusal DiskFault = Unit {0}
IsKeepRefusal status = ⊥

-- a status with which `resume` may end before it writes
abbrev pub IsResumeRefusal : Status → Type 0
IsResumeRefusal NoMemory = Unit {0}
IsResumeRefusal (Journal fault at) = Unit {0}
IsResumeRefusal DiskFault = Unit {0}
IsResumeRefusal status = ⊥

-- a status with which a run text ends, or a front of one
abbrev pub IsTextStatus : Status → Type 0
IsTextStatus Done = Unit {0}
IsTextStatus Stopped = Unit {0}
IsTextStatus WriteFault = Unit {0}
IsTextStatus NoMemory = Unit {0}
IsTextStatus status = ⊥

-- bytes that a source had left are an input with this fault at this place, which is that of `run`
pub record IsFaultyProgram (jobs seed steps : ℕ) (left : Option (List ℕ)) (fault at : ℕ) : Type 0 where
  pub bytes : List ℕ
  pub are_left : AreLeft left bytes
  pub has_fault : IsInputFault (run 1 jobs seed steps) bytes fault at

-- on a disk of these bytes, which has those after the call, the serial run of the program that a source's bytes spell isn't kept, with
-- this fault
abbrev pub IsUnkept : ℕ → ℕ → ℕ → Option (List ℕ) → List ℕ → Option (List ℕ) → ℕ → ℕ → Type 0
IsUnkept jobs seed steps left file after fault at = (P : Program) × SpellsProgram left P × IsKeepFault P jobs seed steps file after fault at

-- this status, or in its place a disk that failed, or want of memory
abbrev pub IsUnlessFailed : Status → Status → Type 0
IsUnlessFailed result status = (result ≡ status) ⊎ ((result ≡ DiskFault) ⊎ (result ≡ NoMemory))

-- why `keep` ended with a status before it wrote
pub record KeepRefusals (jobs seed steps : ℕ) (source : Effect) (disk : DiskEffect) (status : Status) : Type 0 where
  pub read_fault : status ≡ ReadFault → source.Failed
  -- the input has a fault, which is told whatever the disk has
  pub input : (fault at : ℕ) → status ≡ Input fault at → IsFaultyProgram jobs seed steps source.before fault at
  pub faulty : (bytes : List ℕ) (fault at : ℕ) → source.before ≡ Some bytes → IsInputFault (run 1 jobs seed steps) bytes fault at
      → IsUnlessUnread status (Input fault at)
  -- after these the disk is as it was
  pub unread : status ≡ ReadFault → disk.Stayed
  pub untouched : (fault at : ℕ) → status ≡ Input fault at → disk.Stayed
  -- no journal is made of the program, or there is no room for the record of the serial run's next step; on every disk it is 7 or 8
  pub journal : (fault at : ℕ) → status ≡ Journal fault at → IfSome disk.before (λ file. IsUnkept jobs seed steps source.before file disk.after fault at)
  pub among : (fault at : ℕ) → status ≡ Journal fault at → IsCreateNumber fault
  pub unkept : (bytes file : List ℕ) (P : Program) (fault at : ℕ) → source.before ≡ Some bytes → length bytes ≤ input_limit → IsProgram bytes P
      → disk.before ≡ Some file → IsCreateFault (first_size P) file fault at → (status ≡ ReadFault) ⊎ IsUnlessFailed status (Journal fault at)
  pub held : (at : ℕ) → status ≡ Journal 7 at → IsUnwritten disk
  pub disk_fault : status ≡ DiskFault → disk.Failed

-- what `keep` did that ended with this status
pub record KeepEnds (jobs seed steps : ℕ) (source sink : Effect) (disk : DiskEffect) (status : Status) : Type 0 where
  pub is_status : IsKeepRefusal status ⊎ IsTextStatus status
  pub refusals : KeepRefusals jobs seed steps source disk status
  -- on a blank disk on which nothing is pending, a crash at any moment of the call leaves it blank, or a journal of the input's
  -- program and a legal run, whatever the status
  pub any_moment : IfSome disk.before (λ file. IsBlank file → Only disk.before disk.images_before → disk.Leaves (IsBlankOrOfInput source.before))
  -- on a disk that isn't blank nothing is written, whatever the status
  pub held : IfSome disk.before (λ file. (¬ IsBlank file) → IsUnwritten disk)
  pub text : WritesText (IsKeptText jobs seed steps source.before disk) sink status

-- ---- resume

-- why `resume` with these numbers ended with a status before it wrote
pub record ResumeRefusals (jobs seed steps : ℕ) (disk : DiskEffect) (status : Status) : Type 0 where
  -- nothing is found to go on with, or it isn't gone on with; on every disk it is 1 to 6, or 8
  pub journal : (fault at : ℕ) → status ≡ Journal fault at → IfSome disk.before (λ file. IsResumeRunFault jobs seed steps file disk.after fault at)
  pub among : (fault at : ℕ) → status ≡ Journal fault at → IsResumeNumber fault
  pub faulty : (file : List ℕ) (fault at : ℕ) → disk.before ≡ Some file → IsResumeFault file fault at → IsUnlessFailed status (Journal fault at)
  pub unrevived : (file : List ℕ) (fault at : ℕ) → disk.before ≡ Some file → length file ≤ most_bytes → IsUnrevived file fault at
      → IsUnlessFailed status (Journal fault at)
  -- after each fault but 8 nothing was written
  pub unwritten : (fault at : ℕ) → fault ≢ 8 → status ≡ Journal fault at → IsUnwritten disk
  pub disk_fault : status ≡ DiskFault → disk.Failed

-- where `resume` writes nothing to the disk, whatever the status: nothing is found to go on with, as on damaged bytes; the program isn't
-- revived; or the run that is found is complete
pub record ResumeStays (disk : DiskEffect) : Type 0 where
  pub faulty : (file : List ℕ) (fault at : ℕ) → disk.before ≡ Some file → IsResumeFault file fault at → IsUnwritten disk
  pub unrevived : (file : List ℕ) (fault at : ℕ) → disk.before ≡ Some file → length file ≤ most_bytes → IsUnrevived file fault at → IsUnwritten disk
  pub complete : (file : List ℕ) (P : Program) (T : Run) → disk.before ≡ Some file → Stands file P T → Legal P T → Complete P T → IsUnwritten disk

-- what `resume` with these numbers did that ended with this status
pub record ResumeEnds (jobs seed steps : ℕ) (sink : Effect) (disk : DiskEffect) (status : Status) : Type 0 where
  pub is_status : IsResumeRefusal status ⊎ IsTextStatus status
  pub refusals : ResumeRefusals jobs seed steps disk status
  pub stays : ResumeStays disk
  -- on a disk on which nothing is pending, which stands for a program and a legal run, a crash at any moment of the call leaves it
  -- standing for the program, or for its revival, and a legal run that begins with that one, whatever the status
  pub any_moment : (file : List ℕ) (P : Program) (T : Run) → disk.before ≡ Some file → Only disk.before disk.images_before → Stands file P T → Legal P T
      → disk.Leaves (StandsForResumed P T)
  pub text : WritesText (IsResumedText jobs seed steps disk) sink status

-- ---- all commands

-- what a call for a command did, or for words that name none: nothing was read or written then. `resume` reads nothing, and a command with
-- one text leaves the disk as it was
abbrev pub EndsBy : Writing → Option Command → Effect → Effect → DiskEffect → Status → Type 0
EndsBy Writes None source sink disk status = ((status ≡ Words) ⊎ (status ≡ NoMemory)) × source.Stayed × sink.Stayed × disk.Stayed
EndsBy Writes (Some (Text command)) source sink disk status = TextEnds Writes command source sink status × disk.Stayed
EndsBy Writes (Some (Keep jobs seed steps)) source sink disk status = KeepEnds jobs seed steps source sink disk status
EndsBy Writes (Some (Resume jobs seed steps)) source sink disk status = source.Stayed × ResumeEnds jobs seed steps sink disk status

-- what a call for the words of a command line did that ended with this status
abbrev pub Ends : Writing → List (List ℕ) → Effect → Effect → DiskEffect → Status → Type 0
Ends Writes line source sink disk status = EndsBy Writes (command_of line) source sink disk status

-- ---- the process

-- and so for words of which the collection may have failed: then nothing was read or written
abbrev pub EndsFor : Writing → Result (List (List ℕ)) WordsError → Effect → Effect → DiskEffect → Status → Type 0
EndsFor Writes (Ok line) source sink disk status = Ends Writes line source sink disk status
EndsFor Writes (Err error) source sink disk status = (status ≡ of_words_error error) × source.Stayed × sink.Stayed × disk.Stayed

-- the process exits with the number of the status with which its one call ended
pub record Exits (Writes : Writing) (words : Result (List (List ℕ)) WordsError) (source sink : Effect) (disk : DiskEffect) (number : ℕ) : Type 0 where
  pub status : Status
  pub is_number : number ≡ number_of status
  pub ends : EndsFor Writes words source sink disk status
