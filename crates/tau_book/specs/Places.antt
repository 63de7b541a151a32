-- What the calls of a place on a book answer, whoever else calls it (docs/rules.md, "Choice of a worker").
use Rattle.std.specs.Prelude.{◌≡◌, ◌<◌, Option, Some, None, length, IsSome}
use Rattle.tau_eval.specs.Turn.{TurnSoFar}
use Rattle.tau_book.specs.declared.answers.Next.{Next}
use Rattle.tau_book.specs.declared.answers.Next.TheVariants as nexts
use Rattle.tau_book.specs.declared.answers.Told.{Told}
use Rattle.tau_book.specs.declared.answers.Told.TheVariants as tolds
use Rattle.tau_book.specs.Hands.{Held, joined}

-- how the run of a place has ended
pub data End : Type 0 where
  complete : End
  stopped : End

-- the end that an answer tells
abbrev pub end_told : Next → Option End
end_told nexts.Complete = Some complete
end_told nexts.Stopped = Some stopped
end_told (nexts.Idle out) = None
end_told (nexts.Work job) = None
end_told nexts.Stepped = None

-- an end that an answer tells is the place's
abbrev pub EndsBy : Option End → Next → Type 0
EndsBy end answer = IsSome (end_told answer) → end ≡ end_told answer

-- a hand that is handed a job has room
abbrev pub LeavesRoom : Held → Next → Type 0
LeavesRoom h (nexts.Work job) = length h.jobs < h.size
LeavesRoom h answer = Unit {0}

-- a job that is handed out is one for which something vouches
abbrev pub IsVouched : (TurnSoFar → Type 0) → Next → Type 0
IsVouched Vouches (nexts.Work job) = Vouches job
IsVouched Vouches answer = Unit {0}

-- an effect that comes back is the one that was brought, and the hand is as it was; where another job is the record of the turn, a
-- job has joined the hand
abbrev pub ComesBack : Held → Held → TurnSoFar → Told → Type 0
ComesBack h k pending (tolds.Later back) = (back ≡ pending) × (k ≡ h)
ComesBack h k pending tolds.Redone = (job : TurnSoFar) × (k ≡ joined h job)
ComesBack h k pending answer = Unit {0}

-- an answer other than Idle
abbrev pub IsNotIdle : Next → Type 0
IsNotIdle (nexts.Idle out) = ⊥
IsNotIdle answer = Unit {0}
