-- Laws of fitting and legal traces, each the contract of a function of the crate.
use Rattle.std.specs.Prelude.{◌≡◌, ℕ, []}
use Rattle.tau_tree.specs.declared.programs.Program.{Program}
use Rattle.tau_tree.specs.Sound.{Sound}
use Rattle.tau_trace.specs.declared.step.Step.{Step}
use Rattle.tau_trace.specs.Run.{Run, Agree, len, appended}
use Rattle.tau_trace.specs.Known.{WellFormed, IsKnownAt}
use Rattle.tau_past.specs.Safety.{Safe}
use Rattle.tau_script.specs.Openings.{program_opening}
use Rattle.tau_legal.specs.Fits.{Fits}
use Rattle.tau_legal.specs.Traces.{Fitting, IsLegal, Legal, Complete}

-- whatever the program, a fitting trace is safe
abbrev pub FittingTracesAreSafe : Type 0
FittingTracesAreSafe = (P : Program) (T : Run) → WellFormed T → Fitting P T → Safe T

-- and so is a legal one
abbrev pub LegalTracesAreSafe : Type 0
LegalTracesAreSafe = (P : Program) (T : Run) → WellFormed T → Legal P T → Safe T

-- which step fits at a place reads the opening and the steps before it alone
abbrev pub FittingIsLocal : Type 0
FittingIsLocal = (P : Program) (T U : Run) (k : ℕ) (s : Step) → WellFormed T → WellFormed U → Agree T U k → IsKnownAt T k s → Fits P T k s → Fits P U k s

-- and so does which step is legal
abbrev pub LegalityIsLocal : Type 0
LegalityIsLocal = (P : Program) (T U : Run) (k : ℕ) (s : Step) → WellFormed T → WellFormed U → Agree T U k → IsKnownAt T k s → IsLegal P T k s → IsLegal P U k s

-- a fitting trace and one more step that fits are a fitting trace
abbrev pub FittingTracesGrow : Type 0
FittingTracesGrow = (P : Program) (T : Run) (s : Step) → WellFormed T → WellFormed (appended T s) → Fitting P T → Fits P T (len T) s → Fitting P (appended T s)

-- a legal trace and one more step that is legal are a legal trace
abbrev pub LegalTracesGrow : Type 0
LegalTracesGrow = (P : Program) (T : Run) (s : Step) → WellFormed T → WellFormed (appended T s) → Legal P T → IsLegal P T (len T) s → Legal P (appended T s)

-- the trace without steps of a program without posts and script entries is complete
abbrev pub EmptyTracesAreComplete : Type 0
EmptyTracesAreComplete = (P : Program) → P.posts ≡ [] → P.script ≡ [] → Complete P (record { opening = program_opening P; steps = [] })

-- after a complete trace no step is legal, and a legal trace of a sound program is complete where none is legal after it of those that name
-- only what exists
abbrev pub CompleteWhereNoStepIsLegal : Type 0
CompleteWhereNoStepIsLegal = (P : Program) (T : Run) → (Complete P T → (s : Step) → ¬ IsLegal P T (len T) s)
    × (Sound P → WellFormed T → Legal P T → ((s : Step) → IsKnownAt T (len T) s → ¬ IsLegal P T (len T) s) → Complete P T)
