-- What a book answers to a hand that brings an effect, and that gives back its jobs (docs/rules.md, "Choice of a worker").
use Rattle.std.specs.Prelude.{◌≡◌, ◌<◌, ℕ, Bool, true, false, List, [], Option, Some, None}
use Rattle.tau_value.specs.declared.shared.Value.{Value}
use Rattle.tau_value.specs.Value.{val_of}
use Rattle.tau_trace.specs.Run.{len}
use Rattle.tau_eval.specs.Turn.{TurnSoFar, with_reply}
use Rattle.tau_rules.specs.Answers.{IsActed, NoTurnFrom, IsTurnEnd}
use Rattle.tau_rules.specs.declared.answers.Acted.{Acted}
use Rattle.tau_rules.specs.declared.answers.Acted.TheVariants.{Reply, TurnOver, Redo}
use Rattle.tau_queue.specs.OpenTurns.{AreOpenTurns}
use Rattle.tau_book.specs.declared.answers.Told.{Told}
use Rattle.tau_book.specs.declared.answers.Told.TheVariants as tolds
use Rattle.tau_book.specs.Hands.{Held, joined}
use Rattle.tau_book.specs.Books.{Booked, IsAtLimit, GoesOn, IsComplete}
use Rattle.tau_book.specs.Offers.{given_back}
use Rattle.tau_book.specs.Nexts.{IsDueMade}

-- the effect was tried, and this came of it
pub record IsTried (old new : Booked) (pending : TurnSoFar) (a : Acted) : Type 0 where
  pub goes_on : GoesOn old
  pub acted : IsActed old.system new.system pending a
  pub limit_is : new.limit ≡ old.limit
  pub store_is : new.store ≡ old.store

-- where another job is the record of the turn, the book is as it was
abbrev pub StaysAtRedo : Booked → Booked → Acted → Type 0
StaysAtRedo old new (Redo job) = new ≡ old
StaysAtRedo old new a = Unit {0}

-- its step was appended: the turn goes on, and the job with the reply joins the hand; or the turn is over
pub data IsTurnStep (old new : Booked) (h k : Held) (pending : TurnSoFar) : Type 0 where
  goes_on : {r : Value} → IsTried old new pending (Reply r) → k ≡ joined h (with_reply pending (val_of r)) → IsTurnStep old new h k pending
  is_over : IsTried old new pending TurnOver → k ≡ h → IsTurnStep old new h k pending

-- another job is the record of the turn, and joins the hand
pub record IsRedoneWith (old new : Booked) (h k : Held) (pending : TurnSoFar) : Type 0 where
  pub job : TurnSoFar
  pub redone : IsTried old new pending (Redo job)
  pub book_is : new ≡ old
  pub hand_is : k ≡ joined h job

-- the turn isn't open
pub record IsStale (old new : Booked) (h k : Held) (place ended_by : ℕ) : Type 0 where
  pub goes_on : GoesOn old
  pub none_open : NoTurnFrom old.system.run place
  pub ended : IsTurnEnd old.system.run place ended_by
  pub book_is : new ≡ old
  pub hand_is : k ≡ h

-- each answer, in the order in which they are tried
abbrev pub IsTold : Booked → Booked → Held → Held → TurnSoFar → Told → Type 0
IsTold old new h k pending tolds.Stopped = IsAtLimit old × (new ≡ old) × (k ≡ h)
IsTold old new h k pending (tolds.Later back) = IsDueMade old new h k × (back ≡ pending)
IsTold old new h k pending (tolds.Stale ended_by) = IsStale old new h k pending.place ended_by
IsTold old new h k pending tolds.Redone = IsRedoneWith old new h k pending
IsTold old new h k pending tolds.Stepped = IsTurnStep old new h k pending

-- the hand's jobs of open turns are with the returned jobs, and the hand is empty
pub record IsGivenBack (old new : Booked) (h k : Held) : Type 0 where
  pub turns : List ℕ
  pub turns_are : AreOpenTurns old.system.run turns
  pub book_is : new ≡ record old { store = given_back turns h old.store }
  pub hand_is : k ≡ record h { jobs = [] }

-- whether the run of the book has ended, and if so, whether the trace is complete
abbrev pub IsFinished : Booked → Option Bool → Type 0
IsFinished b (Some true) = IsComplete b
IsFinished b (Some false) = (¬ IsComplete b) × IsAtLimit b
IsFinished b None = (¬ IsComplete b) × (len b.system.run < b.limit)
