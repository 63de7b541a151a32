-- What is left of a hand after each Idle.
use Rattle.std.proofs.Common.{◌≡◌, ℕ, eqb, List, [], ◌∷◌, refl, sym, ap, subst}
use Rattle.std.specs.List.{Contains, list_any}
use Rattle.std.specs.Option.{option_to_list}
use Rattle.std.proofs.lemmas.List.Elements.{Contains-append_left}
use Rattle.tau_eval.specs.Turn.{TurnSoFar}
use Rattle.tau_trace.specs.Run.{Run}
use Rattle.tau_queue.specs.OpenTurns.{IsOpenFrom}
use Rattle.tau_queue.proofs.Members.{contains_nothing, contains_here, contains_there, contains_filter}
use Rattle.tau_book.specs.declared.answers.Next.{Next}
use Rattle.tau_book.specs.declared.answers.Next.TheVariants.{Idle}
use Rattle.tau_book.specs.Hands.{Held}
use Rattle.tau_book.specs.Books.{Booked}
use Rattle.tau_book.specs.Offers.{open_jobs, taken_up}
use Rattle.tau_book.specs.Nexts.{IsNext, IsIdle}
use Rattle.tau_book.specs.Lefts.{ArePartOf, none, stays, left_out, IsLeftOf}
use Rattle.tau_book.proofs.Chosen.{has_any}

all_jobs : (IsOver : TurnSoFar → Type 0) (jobs : List TurnSoFar) → ArePartOf IsOver jobs jobs
all_jobs IsOver [] = none
all_jobs IsOver (job ∷ jobs) = stays (all_jobs IsOver jobs)

-- at first all is left
pub all_left : (IsOver : TurnSoFar → Type 0) (h : Held) → IsLeftOf IsOver h h
all_left IsOver h = record { generator = refl; size = refl; jobs = all_jobs IsOver h.jobs }

-- where more is over, what is left is left
more_over : {A B : TurnSoFar → Type 0} {part jobs : List TurnSoFar} → ((job : TurnSoFar) → A job → B job) → ArePartOf A part jobs → ArePartOf B part jobs
more_over more none = none
more_over more (stays rest) = stays (more_over more rest)
more_over more (left_out {job = job} over rest) = left_out (more job over) (more_over more rest)

pub left_longer : (A B : TurnSoFar → Type 0) (h k : Held) → ((job : TurnSoFar) → A job → B job) → IsLeftOf A h k → IsLeftOf B h k
left_longer A B h k more left = record { generator = left.generator; size = left.size; jobs = more_over more left.jobs }

-- where all that are left are over, none need be left
none_left : {IsOver : TurnSoFar → Type 0} {part jobs : List TurnSoFar} → ((job : TurnSoFar) → Contains part job → IsOver job) → ArePartOf IsOver part jobs → ArePartOf IsOver [] jobs
none_left over none = none
none_left over (stays {job = job} {part = part} rest) = left_out (over job (contains_here job part)) (none_left (λ j c. over j (contains_there job j part c)) rest)
none_left over (left_out is rest) = left_out is (none_left over rest)

-- where a book is Idle, no job of the hand is of an open turn
none_open : (old new : Booked) (h k : Held) (out : ℕ) → IsIdle old new h k out → (job : TurnSoFar) → Contains h.jobs job → ¬ IsOpenFrom new.system.run job.place
none_open old new h k out idle job among is_open =
    let turns : List ℕ = idle.offer.turns in
    let before : IsOpenFrom old.system.run job.place = subst (λ (T : Run). IsOpenFrom T job.place) (ap (λ (b : Booked). b.system.run) idle.book_is) is_open in
    let kept : Contains (open_jobs turns h.jobs) job =
    contains_filter (λ j. list_any (λ p. eqb p j.place) turns) h.jobs job among (has_any turns job.place ((idle.offer.turns_are.each job.place).1 before)) in
    contains_nothing job (subst (λ (js : List TurnSoFar). Contains js job) idle.no_job (Contains-append_left (open_jobs turns h.jobs) (option_to_list (taken_up turns h old.store)) job kept))

-- an Idle leaves no job
pub idle_left : (IsOver : TurnSoFar → Type 0) (old new : Booked) (h k n : Held) (answer : Next) (out : ℕ) → IsNext old new k n answer → answer ≡ Idle out
    → ((job : TurnSoFar) → ¬ IsOpenFrom new.system.run job.place → IsOver job) → IsLeftOf IsOver h k → IsLeftOf IsOver h n
idle_left IsOver old new h k n answer out next is over left =
    let idle : IsIdle old new k n out = subst (λ a. IsNext old new k n a) is next in
    let given_up : (job : TurnSoFar) → Contains k.jobs job → IsOver job = λ job among. over job (none_open old new k n out idle job among) in
    subst (IsLeftOf IsOver h) (sym idle.hand_is) (record { generator = left.generator; size = left.size; jobs = none_left given_up left.jobs })
