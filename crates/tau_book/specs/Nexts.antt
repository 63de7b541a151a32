-- What a book answers to a hand that asks for something to do (docs/rules.md, "Choice of a worker").
use Rattle.std.specs.Prelude.{◌≡◌, ◌⊎◌, ◌<◌, ◌≤◌, ◌+◌, ℕ, Bool, true, false, List, [], Some, length, slice_get, ◌++◌, ◌∷◌}
use Rattle.tau_trace.specs.declared.step.Step.{Step}
use Rattle.tau_trace.specs.Run.{len}
use Rattle.tau_script.specs.Scripts.{DueStep, NoneDue}
use Rattle.tau_eval.specs.Turn.{TurnSoFar}
use Rattle.tau_rules.specs.Answers.{IsDelivered}
use Rattle.tau_rules.specs.declared.answers.Delivered.{Delivered}
use Rattle.tau_rules.specs.declared.answers.Delivered.TheVariants.{Began, Dropped, Fell, Voided, Echoed, Heeded}
use Rattle.tau_book.specs.declared.answers.Next.{Next}
use Rattle.tau_book.specs.declared.answers.Next.TheVariants as nexts
use Rattle.tau_book.specs.Hands.{Held, IsNumbered}
use Rattle.tau_book.specs.Books.{Booked, IsAppended, IsAtLimit, GoesOn, IsComplete}
use Rattle.tau_book.specs.Offers.{Offer, jobs_with, store_without, options, number_drawn, generator_after}

-- the due step of the script was appended, and the hand is as it was
pub record IsDueMade (old new : Booked) (h k : Held) : Type 0 where
  pub below : len old.system.run < old.limit
  pub step : Step
  pub due : DueStep old.system.program.script old.system.run (len old.system.run) step
  pub appended : IsAppended old new step old.store
  pub hand_is : k ≡ h

-- the due step of the script was appended; or none is due, and nothing is different
abbrev pub IsDueTried : Booked → Booked → Bool → Type 0
IsDueTried old new true = (s : Step) × DueStep old.system.program.script old.system.run (len old.system.run) s × IsAppended old new s old.store
IsDueTried old new false = NoneDue old.system.program.script old.system.run (len old.system.run) × (new ≡ old)

-- there is nothing to choose from; `out` turns are open
pub record IsIdle (old new : Booked) (h k : Held) (out : ℕ) : Type 0 where
  pub goes_on : GoesOn old
  pub offer : Offer old h
  pub no_job : jobs_with offer.turns h old.store ≡ []
  pub no_message : offer.messages ≡ []
  pub out_is : out ≡ length offer.turns
  pub some_out : 1 ≤ out
  pub book_is : new ≡ record old { store = store_without offer.turns h old.store }
  pub hand_is : k ≡ record h { jobs = [] }

-- the word chose a job, which left the hand
pub record IsHandedOut (old new : Booked) (h k : Held) (job : TurnSoFar) : Type 0 where
  pub goes_on : GoesOn old
  pub offer : Offer old h
  pub others : List TurnSoFar
  pub chosen : let jobs = jobs_with offer.turns h old.store in IsNumbered jobs (number_drawn h.generator (options h.size jobs offer.messages)) job others
  pub book_is : new ≡ record old { store = store_without offer.turns h old.store }
  pub hand_is : k ≡ record { generator = generator_after h.generator; size = h.size; jobs = others }

-- the jobs of a hand with that of the turn that a receipt opened
abbrev pub begun_with : List TurnSoFar → Delivered → List TurnSoFar
begun_with jobs (Began job) = jobs ++ job ∷ []
begun_with jobs Dropped = jobs
begun_with jobs Fell = jobs
begun_with jobs Voided = jobs
begun_with jobs Echoed = jobs
begun_with jobs Heeded = jobs

-- the word chose a message, which was delivered
pub record IsReceived (old new : Booked) (h k : Held) : Type 0 where
  pub goes_on : GoesOn old
  pub offer : Offer old h
  pub place : ℕ
  pub message : ℕ
  pub chosen : let jobs = jobs_with offer.turns h old.store in number_drawn h.generator (options h.size jobs offer.messages) ≡ length jobs + place
  pub message_is : slice_get offer.messages place ≡ Some message
  pub answer : Delivered
  pub delivered : IsDelivered old.system new.system message answer
  pub limit_is : new.limit ≡ old.limit
  pub store_is : new.store ≡ store_without offer.turns h old.store
  pub hand_is : k ≡ record { generator = generator_after h.generator; size = h.size; jobs = begun_with (jobs_with offer.turns h old.store) answer }

-- each answer, in the order in which they are tried
abbrev pub IsNext : Booked → Booked → Held → Held → Next → Type 0
IsNext old new h k nexts.Complete = IsComplete old × (new ≡ old) × (k ≡ h)
IsNext old new h k nexts.Stopped = (¬ IsComplete old) × IsAtLimit old × (new ≡ old) × (k ≡ h)
IsNext old new h k (nexts.Idle out) = IsIdle old new h k out
IsNext old new h k (nexts.Work job) = IsHandedOut old new h k job
IsNext old new h k nexts.Stepped = IsDueMade old new h k ⊎ IsReceived old new h k
