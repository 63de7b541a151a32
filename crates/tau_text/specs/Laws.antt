-- Laws of run texts, each the contract of a function of the crate.
use Rattle.std.specs.Prelude.{◌≡◌, ℕ, List}
use Rattle.tau_tree.specs.declared.programs.Program.{Program}
use Rattle.tau_trace.specs.Run.{Run}
use Rattle.tau_trace.specs.Known.{WellFormed}
use Rattle.tau_script.specs.Openings.{program_opening}
use Rattle.tau_text.specs.RunText.{IsReadBack}

-- the run is one of the program, and both can be read back from the text
pub record TellsRun (P : Program) (T : Run) (text : List ℕ) : Type 0 where
  pub well_formed : WellFormed T
  pub opening : T.opening ≡ program_opening P
  pub read_back : IsReadBack P T text

-- a text tells one program and one run at most
abbrev pub RunTextsTell : Type 0
RunTextsTell = (P Q : Program) (T U : Run) (text : List ℕ) → TellsRun P T text → TellsRun Q U text → (P ≡ Q) × (T ≡ U)
