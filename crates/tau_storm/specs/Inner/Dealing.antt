-- How the seeds of a storm are dealt out to workers.
use Rattle.std.specs.Prelude.{ℕ, ◌+◌, ◌-◌, ◌*◌, ◌/◌, List}
use Rattle.tau_tree.specs.declared.programs.Program.{Program}
use Rattle.tau_faults.specs.declared.setting.Setting.{Setting}
use Rattle.tau_faults.specs.Ends.{End}
use Rattle.tau_storm.specs.declared.dealing.Deal.{Deal}
use Rattle.tau_storm.specs.Seeds.{seed_from}
use Rattle.tau_storm.specs.Inner.Telling.{TellsSeeds}

-- how many seeds the workers before this one have
abbrev pub seeds_before : Deal → ℕ → ℕ
seeds_before d worker = d.seeds * worker / d.workers

-- the first seed of a worker, and how many it has
abbrev pub first_seed : Deal → ℕ → ℕ
first_seed d worker = seed_from d.seed (seeds_before d worker)

abbrev pub seed_count : Deal → ℕ → ℕ
seed_count d worker = seeds_before d (worker + 1) - seeds_before d worker

-- what it is to tell of ends, it tells of those of a worker's seeds
abbrev pub TellsPart : {V : Type 0} → (List End → V → Type 0) → Setting → Program → Deal → ℕ → V → Type 0
TellsPart Tells S O d worker v = TellsSeeds Tells S O (first_seed d worker) (seed_count d worker) v
