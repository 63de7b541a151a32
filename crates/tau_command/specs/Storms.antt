-- The command `storm` by the matches.
use Rattle.std.specs.Prelude.{ℕ, List, Option, Some, None, codes, option_map, option_and_then}
use Rattle.clap.specs.Words.{Row, Text, first_of}
use Rattle.tau_command.specs.Numbers.{number_of}
use Rattle.tau_command.specs.declared.commands.TextCommand.{TextCommand}
use Rattle.tau_command.specs.declared.commands.TextCommand.TheVariants.{Storm}
use Rattle.tau_command.specs.declared.storms.StormNumbers.{StormNumbers}
use Rattle.tau_command.specs.declared.storms.Question.{Question}
use Rattle.tau_command.specs.declared.storms.Question.TheVariants.{Outcomes, Claim, Show}

-- the numbers of the options of `storm`
abbrev pub storm_numbers : List Row → Option StormNumbers
storm_numbers rows =
    option_and_then (λ jobs. option_and_then (λ seed. option_and_then (λ seeds. option_and_then (λ fails.
    option_and_then (λ losses. option_and_then (λ repeats. option_and_then (λ every. option_map (λ steps.
    record { jobs = jobs; seed = seed; seeds = seeds; fails = fails; losses = losses; repeats = repeats; every = every; steps = steps })
    (number_of 32 (codes "steps") rows)) (number_of 32 (codes "every") rows))
    (number_of 32 (codes "repeats") rows)) (number_of 32 (codes "losses") rows))
    (number_of 32 (codes "fails") rows)) (number_of 32 (codes "seeds") rows))
    (number_of 64 (codes "seed") rows)) (number_of 32 (codes "jobs") rows)

-- what is asked: a claim or an outcome, or neither, and not both
abbrev pub question_by : Option Text → Option ℕ → Option Question
question_by None None = Some Outcomes
question_by (Some name) None = Some (Claim name)
question_by None (Some outcome) = Some (Show outcome)
question_by (Some name) (Some outcome) = None

abbrev pub question_of : List Row → Option Question
question_of rows = question_by (first_of (codes "claim") rows) (number_of 32 (codes "show") rows)

-- `storm`, with the number of its workers, its numbers and what is asked
abbrev pub storm_of : List Row → Option TextCommand
storm_of rows = option_and_then (λ w. option_and_then (λ n. option_map (λ q. Storm w n q) (question_of rows)) (storm_numbers rows))
    (number_of 32 (codes "workers") rows)
