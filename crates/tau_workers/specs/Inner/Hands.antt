-- The hands of workers before their first step.
use Rattle.std.specs.Prelude.{ℕ, zero, suc, ◌+◌, ◌%◌, ◌^◌, List, [], ◌∷◌, ◌++◌}
use Rattle.rand_core.specs.Pcg32Seed.{pcg32_seed}
use Rattle.rand_pcg.specs.Pcg.{pcg32_of_seed}
use Rattle.tau_book.specs.Hands.{Held}

-- the empty hand of a worker: its generator is seeded with the seed plus its number, which wraps around at 64 bits
abbrev pub opening_hand : ℕ → ℕ → ℕ → Held
opening_hand seed jobs number = record { generator = pcg32_of_seed (pcg32_seed 16 ((seed + number) % 2 ^ 64)); size = jobs; jobs = [] }

-- those of so many workers, by number
abbrev pub opening_hands : ℕ → ℕ → ℕ → List Held
opening_hands seed jobs zero = []
opening_hands seed jobs (suc n) = opening_hands seed jobs n ++ opening_hand seed jobs n ∷ []
