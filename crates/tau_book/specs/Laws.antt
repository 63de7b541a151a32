-- That there is one serial run, and one run after a run, and that a book which has adopted has work for an empty hand.
use Rattle.std.specs.Prelude.{◌≡◌, ◌≤◌, ℕ, List, []}
use Rattle.rand_pcg.specs.Lcg.{Lcg}
use Rattle.tau_tree.specs.declared.programs.Program.{Program}
use Rattle.tau_trace.specs.Run.{Run}
use Rattle.tau_script.specs.Openings.{program_opening}
use Rattle.tau_legal.specs.Traces.{Legal}
use Rattle.tau_book.specs.declared.answers.Next.TheVariants.{Idle}
use Rattle.tau_book.specs.Hands.{Held}
use Rattle.tau_book.specs.Books.{Booked}
use Rattle.tau_book.specs.Nexts.{IsNext}
use Rattle.tau_book.specs.Adopted.{IsAdopted}
use Rattle.tau_book.specs.SerialRun.{ComesAbout, IsSerialRun}
use Rattle.tau_book.specs.Alone.{ComesAfter, IsRunAfter}

-- two serial runs of one program with the same number of jobs, seed and limit are the same
abbrev pub SerialRunIsUnique : Type 0
SerialRunIsUnique = (P : Program) (jobs seed limit : ℕ) (S T : Run) → IsSerialRun P jobs seed limit S → IsSerialRun P jobs seed limit T → S ≡ T

-- two runs after one legal run with the same number of jobs, seed and limit are the same
abbrev pub RunAfterIsUnique : Type 0
RunAfterIsUnique = (P : Program) (jobs seed limit : ℕ) (start S T : Run) → Legal P start → IsRunAfter P jobs seed limit start S → IsRunAfter P jobs seed limit start T → S ≡ T

-- what comes about behind a run without steps comes about as the serial run does
abbrev pub ComesAfterNone : Type 0
ComesAfterNone = (P : Program) (jobs seed : ℕ) (T : Run) (waiting : List ℕ) (g : Lcg)
    → ComesAfter P jobs seed (record { opening = program_opening P; steps = [] }) T waiting g → ComesAbout P jobs seed T g

-- a book that has adopted isn't Idle for an empty hand
abbrev pub AdoptedIsNotIdle : Type 0
AdoptedIsNotIdle = (before old new : Booked) (h k : Held) (count out : ℕ) → IsAdopted before old count → h.jobs ≡ [] → 1 ≤ h.size → ¬ IsNext old new h k (Idle out)
