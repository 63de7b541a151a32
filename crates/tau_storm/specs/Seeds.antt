-- The ends of a storm over several seeds (docs/definitions.md, "Storm").
use Rattle.std.specs.Prelude.{◌+◌, ◌%◌, ◌^◌, ◌++◌, ℕ, suc, List, []}
use Rattle.tau_tree.specs.declared.programs.Program.{Program}
use Rattle.tau_faults.specs.declared.setting.Setting.{Setting}
use Rattle.tau_faults.specs.Ends.{End, AreEnds}

-- seed number n from this one on; behind the greatest number of 64 bits comes 0
abbrev pub seed_from : ℕ → ℕ → ℕ
seed_from seed n = (seed + n) % (2 ^ 64)

-- the ends of so many seeds from this one on, seed by seed
pub data AreEndsOfSeeds (S : Setting) (O : Program) (seed : ℕ) : ℕ → List End → Type 0 where
  none : AreEndsOfSeeds S O seed 0 []
  more : {n : ℕ} {before ends : List End} → AreEndsOfSeeds S O seed n before → AreEnds S (seed_from seed n) O ends → AreEndsOfSeeds S O seed (suc n) (before ++ ends)
