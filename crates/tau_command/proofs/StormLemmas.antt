-- The numbers of `storm` lie in the ranges of their options.
use Rattle.std.proofs.Common.{◌≡◌, subst, List, [], Option, Some, None, refl, codes}
use Rattle.std.specs.Prelude.{option_and_then, option_map}
use Rattle.clap.specs.Words.{Text, fault_of, matches_of}
use Rattle.tau_command.specs.Arguments.{tau_command}
use Rattle.tau_command.specs.Numbers.{number_of}
use Rattle.tau_command.specs.Commands.{AreStormNumbers, IsInRange}
use Rattle.tau_command.specs.Storms.{question_of, storm_numbers, storm_of}
use Rattle.tau_command.specs.declared.commands.Command.TheVariants as commands
use Rattle.tau_command.specs.declared.commands.TextCommand.{TextCommand}
use Rattle.tau_command.specs.declared.storms.StormNumbers.{StormNumbers}
use Rattle.tau_command.proofs.OptionLemmas.{workers_in_range, jobs_in_range, seeds_in_range, fails_in_range, losses_in_range, repeats_in_range, every_in_range, steps_in_range}

-- the numbers of a command that makes one text lie in the ranges of their options
abbrev pub IsTextInRange : TextCommand → Type 0
IsTextInRange command = IsInRange (commands.Text command)

-- what an answer that is there came from
and_then_some : {A B : Type 0} (f : A → Option B) (o : Option A) (b : B) → option_and_then f o ≡ Some b → (a : A) × (o ≡ Some a) × (f a ≡ Some b)
and_then_some f None b e = absurd (cc)
and_then_some f (Some a) b e = (a, refl, e)

map_some : {A B : Type 0} (f : A → B) (o : Option A) (b : B) → option_map f o ≡ Some b → (a : A) × (o ≡ Some a) × (f a ≡ b)
map_some f None b e = absurd (cc)
map_some f (Some a) b e = (a, refl, cc)

numbers_in_range : (words : List Text) (n : StormNumbers) → fault_of tau_command words ≡ [] → storm_numbers (matches_of tau_command words) ≡ Some n → AreStormNumbers n
numbers_in_range words n none e =
    let rows = matches_of tau_command words in
    let a = and_then_some _ (number_of 32 (codes "jobs") rows) n e in
    let b = and_then_some _ (number_of 64 (codes "seed") rows) n a.2 in
    let c = and_then_some _ (number_of 32 (codes "seeds") rows) n b.2 in
    let d = and_then_some _ (number_of 32 (codes "fails") rows) n c.2 in
    let f = and_then_some _ (number_of 32 (codes "losses") rows) n d.2 in
    let g = and_then_some _ (number_of 32 (codes "repeats") rows) n f.2 in
    let h = and_then_some _ (number_of 32 (codes "every") rows) n g.2 in
    let i = map_some _ (number_of 32 (codes "steps") rows) n h.2 in
    let jobs = jobs_in_range words a.0 none a.1 in
    let seeds = seeds_in_range words c.0 none c.1 in
    let every = every_in_range words h.0 none h.1 in
    subst AreStormNumbers i.2 (record {
      some_jobs = jobs.0;
      few_jobs = jobs.1;
      some_seeds = seeds.0;
      few_seeds = seeds.1;
      few_fails = (fails_in_range words d.0 none d.1).1;
      few_losses = (losses_in_range words f.0 none f.1).1;
      few_repeats = (repeats_in_range words g.0 none g.1).1;
      some_every = every.0;
      few_every = every.1;
      few_steps = (steps_in_range words i.0 none i.1).1;
    })

pub storm_in_range : (words : List Text) (c : TextCommand) → fault_of tau_command words ≡ [] → storm_of (matches_of tau_command words) ≡ Some c → IsTextInRange c
storm_in_range words c none e =
    let rows = matches_of tau_command words in
    let w = and_then_some _ (number_of 32 (codes "workers") rows) c e in
    let n = and_then_some _ (storm_numbers rows) c w.2 in
    let q = map_some _ (question_of rows) c n.2 in
    let workers = workers_in_range words w.0 none w.1 in
    subst IsTextInRange q.2 (workers.0, workers.1, numbers_in_range words n.0 none n.1)
