-- How a run ended that has a limit of steps (docs/definitions.md, "Complete").
use Rattle.std.specs.Prelude.{◌≡◌, ℕ, ◌≤◌, Bool, IsTrue, IsFalse}
use Rattle.tau_tree.specs.declared.programs.Program.{Program}
use Rattle.tau_trace.specs.Run.{Run, len}
use Rattle.tau_trace.specs.Known.{WellFormed}
use Rattle.tau_legal.specs.Traces.{Legal, Complete}

-- a legal run: where it is told as complete it is so, with at most as many steps as the limit says; otherwise it isn't, and has
-- exactly as many
pub record EndsAt (limit : ℕ) (P : Program) (T : Run) (is_complete : Bool) : Type 0 where
  pub well_formed : WellFormed T
  pub legal : Legal P T
  pub complete : IsTrue is_complete → Complete P T × (len T ≤ limit)
  pub stopped : IsFalse is_complete → (¬ Complete P T) × (len T ≡ limit)
