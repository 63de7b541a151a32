-- What contracts see of a table of seats and of a seat, and what turns and joins do to a seat (docs/rules.md, "Seats").
use Rattle.std.specs.Prelude.{◌≡◌, ℕ, ◌<◌, Bool, true, false, List, [], ◌∷◌, ◌++◌, Option, Some, length}
use Rattle.atomic_table.specs.Table.{Me}
use Rattle.atomic_table.specs.Seated.{TableId}
use Rattle.tau_tree.specs.declared.programs.Program.{Program}
use Rattle.tau_trace.specs.declared.step.Step.{Step}
use Rattle.tau_trace.specs.Run.{Run}
use Rattle.tau_legal.specs.Traces.{Complete}
use Rattle.tau_book.specs.declared.answers.Next.{Next}
use Rattle.tau_book.specs.declared.answers.Next.TheVariants as nexts
use Rattle.tau_book.specs.Books.{Booked, IsBook}
use Rattle.tau_seat.specs.declared.view.SeatView.{SeatView}
use Rattle.tau_seat.specs.declared.view.Named.{Named}
use Rattle.tau_seat.specs.Lists.{bare, places, times}
use Rattle.tau_seat.specs.Plays.{IsIdle}
use Rattle.tau_seat.specs.Keys.{Key, run_of, IsSound}

-- the table, how many numbers its seats share, the program and the limit
pub record Tabled : Type 0 where
  pub table : TableId
  pub count : ℕ
  pub program : Program
  pub limit : ℕ

abbrev pub tabled : TableId → Named Key → Tabled
tabled id n = record { table = id; count = n.count; program = n.key.program; limit = n.key.limit }

-- the table whose seat it is, the program and the limit, its numbers, and the steps that it has seen, each with the number that owns its place
pub record Seated : Type 0 where
  pub table : TableId
  pub program : Program
  pub limit : ℕ
  pub numbers : List ℕ
  pub seen : List (Step × ℕ)

abbrev pub seated : TableId → Key → SeatView Key Step → Seated
seated id k v = record { table = id; program = k.program; limit = k.limit; numbers = v.numbers; seen = v.seen }

-- what a seat keeps between its calls: it holds no ticket, it has a number, it names the key, and what it has seen is sound
pub record IsSeat (k : Key) (m : Me (Option Booked) (SeatView Key Step)) : Type 0 where
  pub idle : IsIdle m
  pub some : 0 < length m.0.numbers
  pub named : m.0.names ≡ Some k
  pub sound : IsSound k (bare m.0.seen)

-- the run that it has seen
abbrev pub seen_run : Seated → Run
seen_run s = run_of s.program (bare s.seen)

-- the places of what it has seen whose owner is among its numbers
abbrev pub mine_of : Seated → List ℕ
mine_of s = places s.numbers 0 s.seen

-- the key that it names
abbrev pub key_at : Seated → Key
key_at s = record { program = s.program; limit = s.limit }

-- it is of the same table, names the same program and limit, and has the same numbers
pub record Stays (old new : Seated) : Type 0 where
  pub table_is : new.table ≡ old.table
  pub program_is : new.program ≡ old.program
  pub limit_is : new.limit ≡ old.limit
  pub numbers_are : new.numbers ≡ old.numbers

-- it has seen more steps, of others alone, and none is its own
pub record Watches (old new : Seated) : Type 0 where
  pub others : List (Step × ℕ)
  pub seen_is : new.seen ≡ old.seen ++ others
  pub mine_is : mine_of new ≡ mine_of old

-- it has seen more steps, of others, and last its own step, whose owner is one of its numbers; the place of that step is its own too
pub record Makes (old new : Seated) : Type 0 where
  pub others : List (Step × ℕ)
  pub step : Step
  pub owner : ℕ
  pub seen_is : new.seen ≡ (old.seen ++ others) ++ (step, owner) ∷ []
  pub owner_is : 0 < times owner old.numbers
  pub mine_is : mine_of new ≡ mine_of old ++ length (old.seen ++ others) ∷ []

-- it has made a step, or none
abbrev pub Grows : Bool → Seated → Seated → Type 0
Grows true old new = Makes old new
Grows false old new = Watches old new

-- a book in a turn of the seat, with these steps
pub record IsBookAt (s : Seated) (steps : List (Step × ℕ)) (b : Booked) : Type 0 where
  pub is_book : IsBook b
  pub program_is : b.system.program ≡ s.program
  pub limit_is : b.limit ≡ s.limit
  pub run_is : b.system.run ≡ run_of s.program (bare steps)

-- in a turn of the seat the call went from one book to another: from the book whose steps the seat had seen and others' after them, to the one
-- whose steps the seat has seen now
pub record IsTurn (old new : Seated) (call : Booked → Booked → Type 0) : Type 0 where
  pub others : List (Step × ℕ)
  pub before : Booked
  pub after : Booked
  pub before_is : IsBookAt old (old.seen ++ others) before
  pub after_is : IsBookAt old new.seen after
  pub called : call before after

-- what the seat has seen is complete, or has as many steps as the limit and isn't complete, where the answer tells it
abbrev pub EndsWith : Seated → Next → Type 0
EndsWith s nexts.Complete = Complete s.program (seen_run s)
EndsWith s nexts.Stopped = (¬ Complete s.program (seen_run s)) × (length s.seen ≡ s.limit)
EndsWith s (nexts.Idle out) = Unit {0}
EndsWith s (nexts.Work job) = Unit {0}
EndsWith s nexts.Stepped = Unit {0}
