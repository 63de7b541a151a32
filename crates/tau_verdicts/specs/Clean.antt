-- Clean points: those whose past holds nothing fallen, by the steps so far.
use Rattle.std.specs.Prelude.{ℕ, ◌<◌}
use Rattle.tau_points.specs.declared.point.Point.{Point}
use Rattle.tau_trace.specs.Run.{Run, Agree}
use Rattle.tau_trace.specs.Known.{WellFormed}
use Rattle.tau_past.specs.Decisions.{HasFallen}
use Rattle.tau_past.specs.Pasts.{Is}
use Rattle.tau_past.specs.Safety.{KeepsRules}

-- the places before n
abbrev pub Before : ℕ → ℕ → Type 0
Before n j = j < n

-- by the steps before place n, nothing in the past of p has fallen
abbrev pub IsClean : Run → ℕ → Point → Type 0
IsClean T n p = ¬ HasFallen T (Before n) (Is p)

-- V has the opening and the steps of T before place n, and keeps the facts of safety
pub record GoesOn (T : Run) (n : ℕ) (V : Run) : Type 0 where
  pub known : WellFormed V
  pub agree : Agree T V n
  pub rules : KeepsRules V
