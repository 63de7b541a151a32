-- What there is for a hand to choose from (docs/rules.md, "Choice of a worker").
use Rattle.std.specs.Prelude.{◌≢◌, ◌⊎◌, ◌+◌, ◌%◌, ◌==◌, ℕ, nat_lt, nat_le, not, if◌then◌else◌, List, [], ◌∷◌, ◌++◌, Option, Some, None, length, filter, fold}
use Rattle.std.specs.List.{list_any}
use Rattle.std.specs.Option.{option_to_list}
use Rattle.rand_pcg.specs.Lcg.{Lcg}
use Rattle.rand_pcg.specs.Pcg.{pcg32}
use Rattle.tau_eval.specs.Turn.{TurnSoFar}
use Rattle.tau_queue.specs.OpenTurns.{AreOpenTurns}
use Rattle.tau_queue.specs.Flight.{IsDeliverable, AreDeliverable}
use Rattle.tau_book.specs.Hands.{Held, is_of}
use Rattle.tau_book.specs.Books.{Booked}

-- the jobs of the turns from these places; the others are given up
abbrev pub open_jobs : List ℕ → List TurnSoFar → List TurnSoFar
open_jobs places jobs = filter (λ j. list_any (λ p. p == j.place) places) jobs

-- the job of the least turn
abbrev pub earlier_of : TurnSoFar → Option TurnSoFar → TurnSoFar
earlier_of job None = job
earlier_of job (Some other) = if nat_le job.place other.place then job else other

abbrev pub earliest : List TurnSoFar → Option TurnSoFar
earliest [] = None
earliest (job ∷ jobs) = Some (earlier_of job (earliest jobs))

-- the jobs without that of a turn
abbrev pub without : Option TurnSoFar → List TurnSoFar → List TurnSoFar
without None jobs = jobs
without (Some job) jobs = filter (λ j. not (is_of job.place j)) jobs

-- what a hand chooses among, beside its own jobs and the one that it takes up: the open turns and the deliverable messages
pub record Offer (b : Booked) (h : Held) : Type 0 where
  pub turns : List ℕ
  pub turns_are : AreOpenTurns b.system.run turns
  pub messages : List ℕ
  pub messages_are : AreDeliverable b.system.run messages

-- there is something for a hand that has room: a deliverable message, or a returned job
abbrev pub OffersMore : Booked → Type 0
OffersMore b = ((m : ℕ) × IsDeliverable b.system.run m) ⊎ (b.store ≢ [])

-- the returned job that the hand takes up
abbrev pub taken_up : List ℕ → Held → List TurnSoFar → Option TurnSoFar
taken_up turns h store = if nat_lt (length (open_jobs turns h.jobs)) h.size then earliest (open_jobs turns store) else None

-- the jobs of the hand with it, and the returned jobs without it
abbrev pub jobs_with : List ℕ → Held → List TurnSoFar → List TurnSoFar
jobs_with turns h store = open_jobs turns h.jobs ++ option_to_list (taken_up turns h store)

abbrev pub store_without : List ℕ → Held → List TurnSoFar → List TurnSoFar
store_without turns h store = without (taken_up turns h store) (open_jobs turns store)

-- how many options there are: the jobs, and where the hand has room, the messages
abbrev pub options : ℕ → List TurnSoFar → List ℕ → ℕ
options size jobs messages = length jobs + (if nat_lt (length jobs) size then length messages else 0)

-- the number that a word chooses, and the generator after the word
abbrev pub number_drawn : Lcg → ℕ → ℕ
number_drawn g count = (pcg32 g).0 % count

abbrev pub generator_after : Lcg → Lcg
generator_after g = (pcg32 g).1

-- the returned jobs with one more, unless there is one of its turn
abbrev pub stored : List TurnSoFar → TurnSoFar → List TurnSoFar
stored store job = if list_any (is_of job.place) store then store else store ++ job ∷ []

-- the returned jobs with those that a hand gives back, where these are the open turns
abbrev pub given_back : List ℕ → Held → List TurnSoFar → List TurnSoFar
given_back turns h store = fold stored (open_jobs turns store) (open_jobs turns h.jobs)
