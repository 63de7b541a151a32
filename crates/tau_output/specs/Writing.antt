-- What each command writes for the bytes of its input, and how it then ends.
use Rattle.std.specs.Prelude.{◌≡◌, ℕ, ◌≤◌, IsTrue, List, length}
use Rattle.tau_value.specs.declared.limits.TheConstants.{STEP_LIMIT}
use Rattle.tau_book.specs.declared.limits.TheConstants.{JOB_LIMIT}
use Rattle.tau_command.specs.declared.commands.TextCommand.{TextCommand}
use Rattle.tau_command.specs.declared.commands.TextCommand.TheVariants.{Run, Check, Audit, Report, Print, Gen, Drill, Migrate, Why, Cut, Draw, Storm}
use Rattle.tau_output.specs.declared.outputs.End.{End}
use Rattle.tau_output.specs.declared.outputs.End.TheVariants.{Done}
use Rattle.tau_output.specs.Faults.{input_limit, reads_input}
use Rattle.tau_output.specs.Runs.{RunsBy}
use Rattle.tau_output.specs.Checks.{ChecksAs}
use Rattle.tau_output.specs.Audits.{AuditsAs}
use Rattle.tau_output.specs.Reports.{ReportsAs}
use Rattle.tau_output.specs.Printing.{PrintsAs, GeneratesAs}
use Rattle.tau_output.specs.Drills.{DrillsAs}
use Rattle.tau_output.specs.Migrating.{MigratesAs}
use Rattle.tau_output.specs.Explaining.{ExplainsAs}
use Rattle.tau_output.specs.Cutting.{CutsAs}
use Rattle.tau_output.specs.Drawing.{DrawsAs}
use Rattle.tau_output.specs.Storming.{StormsAs, setting_of}
use Rattle.tau_faults.specs.Visits.{IsSetting}

-- the text that a command writes for bytes, and how it then ends
abbrev pub Answers : TextCommand → List ℕ → End → List ℕ → Type 0
Answers (Run workers jobs seed steps) bytes end text = RunsBy workers jobs seed steps bytes end text
Answers Check bytes end text = ChecksAs bytes end text
Answers Audit bytes end text = AuditsAs bytes end text
Answers Report bytes end text = ReportsAs bytes text × (end ≡ Done)
Answers Print bytes end text = PrintsAs bytes text × (end ≡ Done)
Answers (Gen number) bytes end text = GeneratesAs number text × (end ≡ Done)
Answers (Drill number) bytes end text = DrillsAs number end text
Answers Migrate bytes end text = MigratesAs bytes end text
Answers (Why place) bytes end text = ExplainsAs place bytes text × (end ≡ Done)
Answers Cut bytes end text = CutsAs bytes text × (end ≡ Done)
Answers (Draw from to ask) bytes end text = DrawsAs from to ask bytes text × (end ≡ Done)
-- whatever the number of workers
Answers (Storm workers numbers question) bytes end text = StormsAs numbers question bytes end text

-- and so for an input of these bytes, which are not too many where the command reads any
pub record Writes (command : TextCommand) (bytes : List ℕ) (end : End) (text : List ℕ) : Type 0 where
  pub few : IsTrue (reads_input command) → length bytes ≤ input_limit
  pub answers : Answers command bytes end text

-- a command on one thread: `run` and `storm` have one worker, however many they are told
abbrev pub by_one_worker : TextCommand → TextCommand
by_one_worker (Run workers jobs seed steps) = Run 1 jobs seed steps
by_one_worker Check = Check
by_one_worker Audit = Audit
by_one_worker Report = Report
by_one_worker Print = Print
by_one_worker (Gen number) = Gen number
by_one_worker (Drill number) = Drill number
by_one_worker Migrate = Migrate
by_one_worker (Why place) = Why place
by_one_worker Cut = Cut
by_one_worker (Draw from to ask) = Draw from to ask
by_one_worker (Storm workers numbers question) = Storm 1 numbers question

-- what a command writes on one thread
abbrev pub WritesSerially : TextCommand → List ℕ → End → List ℕ → Type 0
WritesSerially command bytes end text = Writes (by_one_worker command) bytes end text

-- some workers, a number of jobs that a worker can hold, and a limit of steps that a trace can have; and for a storm numbers that its runs
-- can have
abbrev pub HasLimit : TextCommand → Type 0
HasLimit (Run workers jobs seed steps) = (1 ≤ workers) × (1 ≤ jobs) × (jobs ≤ JOB_LIMIT) × (steps ≤ STEP_LIMIT)
HasLimit (Storm workers numbers question) = IsSetting (setting_of numbers)
HasLimit command = Unit {0}
