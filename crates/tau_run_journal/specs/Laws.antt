-- Laws of journals of runs, each the contract of a function of the crate.
use Rattle.std.specs.Prelude.{◌≡◌, ℕ, List}
use Rattle.tau_tree.specs.declared.programs.Program.{Program}
use Rattle.tau_tree.specs.Sound.{Sound}
use Rattle.tau_trace.specs.Run.{Run}
use Rattle.tau_trace.specs.Known.{WellFormed}
use Rattle.tau_script.specs.Openings.{program_opening}
use Rattle.tau_run_journal.specs.Standing.{StandsFor, Stands}

-- the program that records stand for is sound, and the run is one of it
pub record IsRunOf (P : Program) (T : Run) : Type 0 where
  pub sound : Sound P
  pub opening : T.opening ≡ program_opening P
  pub well_formed : WellFormed T

abbrev pub RecordsStandForRuns : Type 0
RecordsStandForRuns = (rs : List (List ℕ)) (P : Program) (T : Run) → StandsFor rs P T → IsRunOf P T

-- bytes stand for one program and one run at most
abbrev pub BytesStandForOneRun : Type 0
BytesStandForOneRun = (file : List ℕ) (P Q : Program) (T U : Run) → Stands file P T → Stands file Q U → (P ≡ Q) × (T ≡ U)
