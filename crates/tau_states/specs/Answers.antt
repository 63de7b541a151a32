-- What a table of states answers, after a run.
use Rattle.std.specs.Prelude.{◌≡◌, ℕ, suc, ◌<◌, ◌≤◌, Option, Some, None, List}
use Rattle.tau_value.specs.declared.shared.Value.{Value}
use Rattle.tau_history.specs.Timeline.{interval}
use Rattle.tau_trace.specs.Run.{Run, len}
use Rattle.tau_trace.specs.Numbering.{born}
use Rattle.tau_trace.specs.Histories.{history, IsLiving}
use Rattle.tau_trace.specs.Points.{point_at}
use Rattle.tau_past.specs.States.{StateAt, SavedWith}

-- transactor t exists after the run and has not ended
pub record IsPresent (T : Run) (t : ℕ) : Type 0 where
  pub exists : t < born T (len T)
  pub living : IsLiving T t (len T)

-- transactor t exists after the run, in interval 1 or later
pub record HasClosed (T : Run) (t : ℕ) : Type 0 where
  pub exists : t < born T (len T)
  pub closed : 1 ≤ interval (history T t (len T))

-- the state of t after the run; None where it doesn't exist or has ended
abbrev pub IsStateAfter : Run → List Value → ℕ → Option Value → Type 0
IsStateAfter T opening t None = ¬ IsPresent T t
IsStateAfter T opening t (Some v) = IsPresent T t × StateAt T opening (point_at T t (len T)) (len T) v

-- what t saved with the interval before the one in which it is after the run; None where it doesn't exist or is at
-- interval 0
abbrev pub IsSavedAfter : Run → List Value → ℕ → Option Value → Type 0
IsSavedAfter T opening t None = ¬ HasClosed T t
IsSavedAfter T opening t (Some v) = (i : ℕ) × (t < born T (len T)) × (interval (history T t (len T)) ≡ suc i) × SavedWith T opening t i v

-- the interval of t after the run; None where it doesn't exist
abbrev pub IsIntervalAfter : Run → ℕ → Option ℕ → Type 0
IsIntervalAfter T t None = ¬ (t < born T (len T))
IsIntervalAfter T t (Some i) = (t < born T (len T)) × (i ≡ interval (history T t (len T)))
