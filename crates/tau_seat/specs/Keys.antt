-- What a book is of, and what the list of its steps then keeps.
use Rattle.std.specs.Prelude.{◌≤◌, ℕ, List, length}
use Rattle.tau_tree.specs.declared.programs.Program.{Program}
use Rattle.tau_trace.specs.declared.step.Step.{Step}
use Rattle.tau_trace.specs.Run.{Run}
use Rattle.tau_trace.specs.Known.{WellFormed}
use Rattle.tau_script.specs.Openings.{program_opening}
use Rattle.tau_legal.specs.Traces.{Legal}
use Rattle.tau_book.specs.Books.{Booked}

-- the program, and the limit of steps
pub record Key : Type 0 where
  pub program : Program
  pub limit : ℕ

-- the run of a program with these steps
abbrev pub run_of : Program → List Step → Run
run_of P steps = record { opening = program_opening P; steps = steps }

-- the run with these steps is well formed and legal, and there are at most `limit`
pub record IsSound (k : Key) (steps : List Step) : Type 0 where
  pub well_formed : WellFormed (run_of k.program steps)
  pub legal : Legal k.program (run_of k.program steps)
  pub limited : length steps ≤ k.limit

-- what a book is of, and its steps
abbrev pub key_of : Booked → Key
key_of b = record { program = b.system.program; limit = b.limit }

abbrev pub steps_of : Booked → List Step
steps_of b = b.system.run.steps
