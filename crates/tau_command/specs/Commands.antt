-- The commands that the words of a command line name.
use Rattle.std.specs.Prelude.{◌≤◌, Bool, true, false, not, ◌&&◌, ◌||◌, List, [], ◌∷◌, Option, Some, None, find, codes}
use Rattle.std.specs.Prelude.{if◌then◌else◌, option_map, option_and_then}
use Rattle.std.specs.Str.{bytes_eq}
use Rattle.clap.specs.Words.{Kinds, Row, Text, fault_of, first_of, matches_of}
use Rattle.clap.specs.declared.parser.matches.ValueSource.{ValueSource}
use Rattle.clap.specs.declared.parser.matches.ValueSource.TheVariants.{CommandLine}
use Rattle.tau_command.specs.Arguments.{tau_command}
use Rattle.tau_command.specs.Numbers.{number_of}
use Rattle.tau_command.specs.Storms.{storm_of}
use Rattle.tau_command.specs.declared.commands.Command.{Command}
use Rattle.tau_command.specs.declared.commands.Command.TheVariants as commands
use Rattle.tau_command.specs.declared.commands.TextCommand.{TextCommand}
use Rattle.tau_command.specs.declared.commands.TextCommand.TheVariants.{Run, Check, Audit, Report, Print, Gen, Drill, Migrate, Why, Cut, Draw, Storm}
use Rattle.tau_command.specs.declared.matched.RunNumbers.{RunNumbers}
use Rattle.tau_command.specs.declared.storms.StormNumbers.{StormNumbers}

-- ---- what the matches say

abbrev pub is_from_words : Option ValueSource → Bool
is_from_words (Some CommandLine) = true
is_from_words source = false

-- an argument stands on the line, so that its value is no default
abbrev pub stands : Text → List Row → Bool
stands id rows = is_from_words (option_and_then (λ r. r.source) (find (λ r. bytes_eq r.id id) rows))

-- an option of `run`, `keep`, `resume` and `storm` stands on the line
abbrev pub has_choice_option : List Row → Bool
has_choice_option rows = stands (codes "workers") rows || (stands (codes "jobs") rows || (stands (codes "seed") rows || stands (codes "steps") rows))

-- an option of `storm` alone stands on the line
abbrev pub has_storm_option : List Row → Bool
has_storm_option rows = stands (codes "seeds") rows
    || (stands (codes "fails") rows || (stands (codes "losses") rows || (stands (codes "repeats") rows
    || (stands (codes "every") rows || (stands (codes "claim") rows || stands (codes "show") rows)))))

-- an option of `draw` stands on the line
abbrev pub has_window_option : List Row → Bool
has_window_option rows = stands (codes "from") rows || stands (codes "to") rows

-- ---- the command

-- the numbers of the options of `run`
abbrev pub run_numbers : List Row → Option RunNumbers
run_numbers rows =
    option_and_then (λ workers. option_and_then (λ jobs. option_and_then (λ seed. option_map (λ steps.
    record { workers = workers; jobs = jobs; seed = seed; steps = steps })
    (number_of 32 (codes "steps") rows)) (number_of 64 (codes "seed") rows))
    (number_of 32 (codes "jobs") rows)) (number_of 32 (codes "workers") rows)

-- `run`, with its four numbers
abbrev pub run_of : List Row → Option TextCommand
run_of rows = option_map (λ n. Run n.workers n.jobs n.seed n.steps) (run_numbers rows)

-- `draw`, with the two numbers of its window, and its place where a number stands on the line
abbrev pub draw_of : List Row → Option TextCommand
draw_of rows =
    option_and_then (λ from. option_map (λ to. Draw from to (number_of 64 (codes "number") rows))
    (number_of 32 (codes "to") rows)) (number_of 32 (codes "from") rows)

-- the command with a name that has at most numbers; `gen`, `drill` and `why` have theirs
abbrev pub plain_named : Text → List Row → Option TextCommand
plain_named name rows = if bytes_eq name (codes "run") then run_of rows
    else (if bytes_eq name (codes "check") then Some Check
    else (if bytes_eq name (codes "audit") then Some Audit
    else (if bytes_eq name (codes "report") then Some Report
    else (if bytes_eq name (codes "print") then Some Print
    else (if bytes_eq name (codes "gen") then option_map (λ n. Gen n) (number_of 64 (codes "number") rows)
    else (if bytes_eq name (codes "drill") then option_map (λ n. Drill n) (number_of 64 (codes "number") rows)
    else (if bytes_eq name (codes "migrate") then Some Migrate
    else (if bytes_eq name (codes "why") then option_map (λ n. Why n) (number_of 64 (codes "number") rows)
    else (if bytes_eq name (codes "cut") then Some Cut
    else (if bytes_eq name (codes "draw") then draw_of rows
    else None))))))))))

-- the command with a name that makes one text
abbrev pub text_named : Text → List Row → Option TextCommand
text_named name rows = if bytes_eq name (codes "storm") then storm_of rows else plain_named name rows

-- the command with a name; `keep` and `resume` have the numbers of `run`, and that of the workers is read and not used
abbrev pub command_named : Text → List Row → Option Command
command_named name rows = if bytes_eq name (codes "keep") then option_map (λ n. commands.Keep n.jobs n.seed n.steps) (run_numbers rows)
    else (if bytes_eq name (codes "resume") then option_map (λ n. commands.Resume n.jobs n.seed n.steps) (run_numbers rows)
    else option_map (λ c. commands.Text c) (text_named name rows))

-- a command with which the options of `run` may stand
abbrev pub takes_choices : Text → Bool
takes_choices name = bytes_eq name (codes "run")
    || (bytes_eq name (codes "keep") || (bytes_eq name (codes "resume") || bytes_eq name (codes "storm")))

-- a command with which a number may stand
abbrev pub takes_number : Text → Bool
takes_number name = bytes_eq name (codes "gen")
    || (bytes_eq name (codes "drill") || (bytes_eq name (codes "why") || bytes_eq name (codes "draw")))

-- an option stands with a command that it doesn't go with, or a number with one that takes none
abbrev pub stands_amiss : Text → List Row → Bool
stands_amiss name rows = (has_choice_option rows && not (takes_choices name))
    || ((has_window_option rows && not (bytes_eq name (codes "draw")))
    || ((has_storm_option rows && not (bytes_eq name (codes "storm"))) || (stands (codes "number") rows && not (takes_number name))))

-- the command with a name, where what stands on the line goes with it
abbrev pub command_allowed : List Row → Text → Option Command
command_allowed rows name = if stands_amiss name rows then None else command_named name rows

-- the command of the matches
abbrev pub command_matched : List Row → Option Command
command_matched rows = option_and_then (command_allowed rows) (first_of (codes "command") rows)

-- a command, where the words have no fault
abbrev pub where_faultless : Kinds → Option Command → Option Command
where_faultless [] command = command
where_faultless (kind ∷ kinds) command = None

-- the command that the words name: `clap` has matches for them, and these name it
unfoldable pub command_of : List Text → Option Command
command_of words =
    where_faultless (fault_of tau_command words) (command_matched (matches_of tau_command words))

-- ---- the ranges

-- the numbers of `storm` lie in the ranges of its options
pub record AreStormNumbers (n : StormNumbers) : Type 0 where
  pub some_jobs : 1 ≤ n.jobs
  pub few_jobs : n.jobs ≤ 16
  pub some_seeds : 1 ≤ n.seeds
  pub few_seeds : n.seeds ≤ 1000000000
  pub few_fails : n.fails ≤ 16
  pub few_losses : n.losses ≤ 16
  pub few_repeats : n.repeats ≤ 16
  pub some_every : 1 ≤ n.every
  pub few_every : n.every ≤ 200000
  pub few_steps : n.steps ≤ 200000

-- the numbers of `keep`, `resume`, `run` and `storm` lie in the ranges of their options
abbrev pub IsInRange : Command → Type 0
IsInRange (commands.Keep jobs seed steps) = (1 ≤ jobs) × (jobs ≤ 16) × (steps ≤ 200000)
IsInRange (commands.Resume jobs seed steps) = (1 ≤ jobs) × (jobs ≤ 16) × (steps ≤ 200000)
IsInRange (commands.Text (Run workers jobs seed steps)) = (1 ≤ workers) × (workers ≤ 32) × (1 ≤ jobs) × (jobs ≤ 16) × (steps ≤ 200000)
IsInRange (commands.Text (Storm workers numbers question)) = (1 ≤ workers) × (workers ≤ 32) × AreStormNumbers numbers
IsInRange (commands.Text command) = Unit {0}
