-- What contracts see of a hand, and which of its jobs is which option (docs/rules.md, "Choice of a worker").
use Rattle.std.specs.Prelude.{◌≡◌, ◌+◌, ◌==◌, ℕ, nat_lt, Bool, List, [], ◌∷◌, ◌++◌, count_by, refl}
use Rattle.std.specs.Coded.{Coded, code_by, coded_ℕ, coded_list, coded×}
use Rattle.rand_pcg.specs.Lcg.{Lcg}
use Rattle.tau_eval.specs.Turn.{TurnSoFar, turn_code}

-- the generator, how many jobs there is room for, and the jobs in the order in which they came
pub record Held : Type 0 where
  pub generator : Lcg
  pub size : ℕ
  pub jobs : List TurnSoFar

abbrev pub held_code : Coded Held
held_code =
    code_by ((ℕ × ℕ) × (ℕ × List TurnSoFar)) (coded× (coded× coded_ℕ coded_ℕ) (coded× coded_ℕ (coded_list turn_code))) (λ h. ((h.generator.state, h.generator.increment), (h.size, h.jobs))) (λ p. record { generator = record { state = p.0.0; increment = p.0.1 }; size = p.1.0; jobs = p.1.1 }) (λ _. refl)

-- the hand with one job more
abbrev pub joined : Held → TurnSoFar → Held
joined h job = record h { jobs = h.jobs ++ job ∷ [] }

-- a job of an earlier turn, or of this turn
abbrev pub is_earlier : ℕ → TurnSoFar → Bool
is_earlier place job = nat_lt job.place place

abbrev pub is_of : ℕ → TurnSoFar → Bool
is_of place job = job.place == place

-- the job is the one with this number by ascending turn, and the others stay in their order: before it in that order stand those
-- of an earlier turn, and of its own turn those that came before it
pub record IsNumbered (jobs : List TurnSoFar) (number : ℕ) (job : TurnSoFar) (others : List TurnSoFar) : Type 0 where
  pub front : List TurnSoFar
  pub back : List TurnSoFar
  pub stands : jobs ≡ front ++ job ∷ back
  pub others_are : others ≡ front ++ back
  pub number_is : number ≡ count_by (is_earlier job.place) jobs + count_by (is_of job.place) front
