-- The book with which one goes on, and what is said of the run that comes after.
use Rattle.std.proofs.Common.{◌≡◌, ℕ, List, Option, ap, subst}
use Rattle.tau_tree.specs.declared.programs.Program.{Program}
use Rattle.tau_trace.specs.Run.{Run}
use Rattle.tau_book.specs.Books.{Booked}
use Rattle.tau_book.specs.Alone.{IsRunAfter}
use Rattle.tau_book.specs.SerialRun.{IsSerialRun}
use Rattle.tau_book.specs.Laws.{ComesAfterNone}
use Rattle.tau_book.specs.Adopted.{IsAdopted}
use Rattle.tau_journaling.specs.Kept.{HasNoRoomAfter}
use Rattle.tau_run_journal.specs.Standing.{opened}

-- a book that has adopted is of the same program and run
module _ (old new : Booked) (count : ℕ) (is : IsAdopted old new count) where
  pub adopted_program : new.system.program ≡ old.system.program
  adopted_program = ap (λ (b : Booked). b.system.program) is.book_is

  pub adopted_run : new.system.run ≡ old.system.run
  adopted_run = ap (λ (b : Booked). b.system.run) is.book_is

  pub adopted_limit : new.limit ≡ old.limit
  adopted_limit = ap (λ (b : Booked). b.limit) is.book_is

-- the record of the next step of a run after another, of the same program, jobs, limit and start
pub same_no_room : (P Q : Program) (size jobs seed most limit : ℕ) (S start : Run) (bytes : Option (List ℕ)) (at : ℕ) → Q ≡ P → size ≡ jobs → most ≡ limit → S ≡ start → HasNoRoomAfter Q size seed most S bytes at → HasNoRoomAfter P jobs seed limit start bytes at
same_no_room P Q size jobs seed most limit S start bytes at program room same first full =
    subst (λ X. HasNoRoomAfter X jobs seed limit start bytes at) program (subst (λ n. HasNoRoomAfter Q n seed limit start bytes at) room (subst (λ n. HasNoRoomAfter Q size seed n start bytes at) same (subst (λ X. HasNoRoomAfter Q size seed most X bytes at) first full)))

-- behind the run without steps it is the serial one
pub serial_then : ComesAfterNone → (P : Program) (jobs seed limit : ℕ) (T : Run) → IsRunAfter P jobs seed limit (opened P) T → IsSerialRun P jobs seed limit T
serial_then law P jobs seed limit T a = record { generator = a.generator; comes_about = law P jobs seed T a.waiting a.generator a.comes_after; within = a.within; ends = a.ends }
