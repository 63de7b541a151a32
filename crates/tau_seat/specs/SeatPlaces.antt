-- What contracts see of a seat as a worker's place.
use Rattle.std.specs.Prelude.{◌≡◌, ◌<◌, ◌≤◌, ℕ, Bool, true, false, IsTrue, List, Option, Some, None, length}
use Rattle.atomic_table.specs.Seated.{TableId}
use Rattle.tau_tree.specs.declared.programs.Program.{Program}
use Rattle.tau_trace.specs.Run.{len}
use Rattle.tau_trace.specs.Turns.{Turn}
use Rattle.tau_legal.specs.Traces.{Complete}
use Rattle.tau_eval.specs.Turn.{TurnSoFar}
use Rattle.tau_book.specs.Working.{IsOpenFrom}
use Rattle.tau_book.specs.declared.answers.Next.{Next}
use Rattle.tau_book.specs.declared.answers.Next.TheVariants as nexts
use Rattle.tau_book.specs.Places.{End, complete, stopped}
use Rattle.tau_seat.specs.Seated.{Seated, seen_run}
use Rattle.tau_seat.specs.Knowing.{IsSeenOpen}

-- the end of a run: whether it is complete
abbrev pub end_of : Option Bool → Option End
end_of None = None
end_of (Some true) = Some complete
end_of (Some false) = Some stopped

-- the seat, the end that it was told, and whether no job had come back to the book whenever it asked for one
pub record Placed : Type 0 where
  pub seat : Seated
  pub is_complete : Option Bool
  pub knows : Bool

-- what no call changes: the table, the numbers, the program and the limit
pub record PlaceKey : Type 0 where
  pub table : TableId
  pub numbers : List ℕ
  pub program : Program
  pub limit : ℕ

abbrev pub key_of_place : Placed → PlaceKey
key_of_place p = record { table = p.seat.table; numbers = p.seat.numbers; program = p.seat.program; limit = p.seat.limit }

-- what the seat has seen is complete, or has as many steps as the limit and isn't complete, as it was told
abbrev pub HasEnded : Seated → Option Bool → Type 0
HasEnded s None = Unit {0}
HasEnded s (Some true) = Complete s.program (seen_run s)
HasEnded s (Some false) = (¬ Complete s.program (seen_run s)) × (length s.seen ≡ s.limit)

-- in the run that it has seen there is a moment, not before what it had seen at first, at which the turn of the job isn't open; where that
-- turn had begun by then, it isn't open at the end either
pub record IsSeenOver (old new : Seated) (job : TurnSoFar) : Type 0 where
  pub moment : ℕ
  pub since : len (seen_run old) ≤ moment
  pub until : moment ≤ len (seen_run new)
  pub over : (who message : ℕ) → ¬ Turn (seen_run new) who moment job.place message
  pub stays : job.place < moment → ¬ IsOpenFrom (seen_run new) job.place

-- whether the trace is complete, where the answer tells the end
abbrev pub completeness_told : Next → Option Bool
completeness_told nexts.Complete = Some true
completeness_told nexts.Stopped = Some false
completeness_told (nexts.Idle out) = None
completeness_told (nexts.Work job) = None
completeness_told nexts.Stepped = None

-- if no job had come back, the job was the record of an open turn in the run that its seat has seen
abbrev pub Vouches : Placed → TurnSoFar → Type 0
Vouches p job = IsTrue p.knows → IsSeenOpen p.seat job
