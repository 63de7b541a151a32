-- What is known of the jobs of a hand: that they were records of open turns (docs/rules.md, "Seats").
use Rattle.std.specs.Prelude.{◌≡◌, List, [], All}
use Rattle.tau_eval.specs.Turn.{TurnSoFar}
use Rattle.tau_rules.specs.KnownJobs.{WasOpenJob}
use Rattle.tau_book.specs.declared.answers.Next.{Next}
use Rattle.tau_book.specs.declared.answers.Told.{Told}
use Rattle.tau_book.specs.Hands.{Held}
use Rattle.tau_book.specs.Books.{Booked}
use Rattle.tau_book.specs.Nexts.{IsNext}
use Rattle.tau_book.specs.Tolds.{IsTold}
use Rattle.tau_book.specs.Places.{IsVouched}

-- at some moment of the book's run the job was the record of a turn that was open then
abbrev pub IsKnown : Booked → TurnSoFar → Type 0
IsKnown b job = WasOpenJob b.system.program b.system.run job

-- each of the jobs was so
abbrev pub AreKnown : Booked → List TurnSoFar → Type 0
AreKnown b jobs = All (IsKnown b) jobs

-- a job that is handed out was so
abbrev pub IsKnownWork : Booked → Next → Type 0
IsKnownWork b answer = IsVouched (IsKnown b) answer

-- where no job has come back, `next` hands on what is known: of the jobs that the hand has then, and of the one that is handed out
abbrev pub NextHandsOnKnown : Type 0
NextHandsOnKnown = (old new : Booked) (h k : Held) (answer : Next) → IsNext old new h k answer → old.store ≡ [] → AreKnown old h.jobs → AreKnown new k.jobs × IsKnownWork new answer

-- and `act` hands on what is known of the jobs that the hand has then
abbrev pub ActHandsOnKnown : Type 0
ActHandsOnKnown = (old new : Booked) (h k : Held) (pending : TurnSoFar) (answer : Told) → IsTold old new h k pending answer → AreKnown old h.jobs → AreKnown new k.jobs
