-- Freedom that lasts.
use Rattle.std.specs.Prelude.{◌≡◌, ℕ, Bool, Option, Some, IsTrue}
use Rattle.tau_trace.specs.declared.step.Step.{Step}
use Rattle.tau_trace.specs.Run.{Run, len, step_at}
use Rattle.tau_trace.specs.Points.{Leaves}
use Rattle.tau_past.specs.Decisions.{Free}
use Rattle.tau_verdicts.specs.Clean.{GoesOn}

-- t is free at the end of the run, however the run goes on
abbrev pub IsFree : Run → ℕ → Type 0
IsFree T t = (V : Run) → GoesOn T (len T) V → Free V t (len T)

-- so is each transactor at place n of which it is kept
abbrev pub AreFree : Run → ℕ → (ℕ → Bool) → Type 0
AreFree T n free = (V : Run) → GoesOn T n V → (t : ℕ) → IsTrue (free t) → Free V t n

-- by the step that comes next nobody but this one leaves its point
abbrev pub LeavesAtMost : Run → Step → Option ℕ → Type 0
LeavesAtMost T s l = (V : Run) → GoesOn T (len T) V → step_at V (len T) ≡ Some s → (u : ℕ) → Leaves V u (len T) → l ≡ Some u
