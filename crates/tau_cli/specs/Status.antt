-- The number of a status, and its line on standard error.
use Rattle.std.specs.Prelude.{ℕ, List, [], ◌++◌, codes}
use Rattle.std.specs.Fmt.{decimal}
use Rattle.tau_io.specs.declared.reading.ReadError.{ReadError}
use Rattle.tau_io.specs.declared.reading.ReadError.TheVariants as reads
use Rattle.tau_command.specs.declared.commands.WordsError.{WordsError}
use Rattle.tau_command.specs.declared.commands.WordsError.TheVariants as words
use Rattle.tau_text.specs.FaultNumbers.{fault_number}
use Rattle.tau_text.specs.declared.faults.InputFault.TheVariants as faults
use Rattle.tau_text.specs.declared.errors.InputError.{InputError}
use Rattle.tau_text.specs.declared.errors.InputError.TheVariants as inputs
use Rattle.tau_journal.specs.declared.errors.JournalError.{JournalError}
use Rattle.tau_journal.specs.declared.errors.JournalError.TheVariants as journals
use Rattle.tau_output.specs.declared.outputs.End.{End}
use Rattle.tau_output.specs.declared.outputs.End.TheVariants as ends
use Rattle.tau_output.specs.declared.refusals.Refusal.{Refusal}
use Rattle.tau_output.specs.declared.refusals.Refusal.TheVariants as refusals
use Rattle.tau_output.specs.declared.refusals.Wanted.{Wanted}
use Rattle.tau_output.specs.declared.refusals.Wanted.TheVariants as wants
use Rattle.tau_output.specs.Faults.{input_limit}
use Rattle.tau_cli.specs.declared.statuses.Status.{Status}
use Rattle.tau_cli.specs.declared.statuses.Status.TheVariants.{Done, Stopped, Words, Input, Bad, ReadFault, WriteFault, NoMemory, Broken, Journal, DiskFault, Place, Claim, NoClaim, NoOutcome}

-- the status of the process
abbrev pub number_of : Status → ℕ
number_of Done = 0
number_of Stopped = 1
number_of Words = 2
number_of (Input fault at) = 3
number_of (Bad place) = 4
number_of ReadFault = 5
number_of WriteFault = 6
number_of NoMemory = 7
number_of (Broken checkpoint point fall) = 8
number_of (Journal fault at) = 9
number_of DiskFault = 10
number_of (Place place) = 11
number_of Claim = 12
number_of NoClaim = 13
number_of NoOutcome = 13

-- the line, without its line feed; where all is done there is none
abbrev pub line_of : Status → List ℕ
line_of Done = []
line_of Stopped = codes "tau: stopped at the step limit"
line_of Words = codes "tau: usage: tau run|check|audit|report|print|gen N|drill N|migrate|keep|resume|why N|cut|draw|storm"
line_of (Input fault at) = codes "tau: input fault " ++ decimal fault ++ codes " at " ++ decimal at
line_of (Bad place) = codes "tau: a step is not legal"
line_of ReadFault = codes "tau: reading failed"
line_of WriteFault = codes "tau: writing failed"
line_of NoMemory = codes "tau: out of memory"
line_of (Broken checkpoint point fall) = codes "tau: a checkpoint is not safe"
line_of (Journal fault at) = codes "tau: journal fault " ++ decimal fault ++ codes " at " ++ decimal at
line_of DiskFault = codes "tau: the disk failed"
line_of (Place place) = codes "tau: no such decision at " ++ decimal place
line_of Claim = codes "tau: the claim is broken"
line_of NoClaim = codes "tau: no such claim"
line_of NoOutcome = codes "tau: no such outcome"

-- a status that comes before anything is written
abbrev pub IsRefusal : Status → Type 0
IsRefusal Words = Unit {0}
IsRefusal (Input fault at) = Unit {0}
IsRefusal ReadFault = Unit {0}
IsRefusal (Journal fault at) = Unit {0}
IsRefusal DiskFault = Unit {0}
IsRefusal (Place place) = Unit {0}
IsRefusal NoClaim = Unit {0}
IsRefusal NoOutcome = Unit {0}
IsRefusal status = ⊥

-- a status that tells of a disk
abbrev pub TellsOfDisk : Status → Type 0
TellsOfDisk (Journal fault at) = Unit {0}
TellsOfDisk DiskFault = Unit {0}
TellsOfDisk status = ⊥

-- a status that comes where the whole text was written
abbrev pub IsResult : Status → Type 0
IsResult Done = Unit {0}
IsResult Stopped = Unit {0}
IsResult (Bad place) = Unit {0}
IsResult (Broken checkpoint point fall) = Unit {0}
IsResult Claim = Unit {0}
IsResult status = ⊥

-- the status where the whole text was written
abbrev pub of_end : End → Status
of_end ends.Done = Done
of_end ends.Stopped = Stopped
of_end (ends.Bad place) = Bad place
of_end (ends.Broken checkpoint point fall) = Broken checkpoint point fall
of_end ends.Claimed = Claim

-- the status for an error
abbrev pub of_words_error : WordsError → Status
of_words_error words.Words = Words
of_words_error words.NoMemory = NoMemory

abbrev pub of_read_error : ReadError → Status
of_read_error reads.ReadFault = ReadFault
of_read_error reads.TooLong = Input (fault_number faults.TooLong) input_limit
of_read_error reads.NoMemory = NoMemory

abbrev pub of_input_error : InputError → Status
of_input_error (inputs.Fault fault at) = Input fault at
of_input_error inputs.NoMemory = NoMemory

abbrev pub of_journal_error : JournalError → Status
of_journal_error (journals.Fault fault at) = Journal fault at
of_journal_error journals.DiskFault = DiskFault
of_journal_error journals.NoMemory = NoMemory

-- the status where the input lacks what is wanted
abbrev pub of_wanted : Wanted → Status
of_wanted (wants.Step place) = Place place
of_wanted wants.Behaviour = NoClaim
of_wanted wants.Outcome = NoOutcome

-- the status for a refusal
abbrev pub of_refusal : Refusal → Status
of_refusal (refusals.Fault fault at) = Input fault at
of_refusal (refusals.Lacking wanted) = of_wanted wanted
of_refusal refusals.NoMemory = NoMemory
