-- The step of which a picture is asked to tell the cause (docs/formats.md, "Pictures").
use Rattle.std.specs.Prelude.{◌≡◌, ◌⊎◌, ℕ, List, Option, Some, None, Contains}
use Rattle.tau_points.specs.declared.point.Point.{Point}
use Rattle.tau_explain.specs.declared.chains.chained.Chained.{Chained}
use Rattle.tau_trace.specs.Run.{Run}
use Rattle.tau_past.specs.Audits.{ChecksAt}
use Rattle.tau_explain.specs.Decisions.{IsDecision}
use Rattle.tau_cut.specs.declared.cut.Marked.{Marked}
use Rattle.tau_cut.specs.Consistent.{IsConsistent}
use Rattle.tau_scene.specs.Causes.Causes.{IsCauseAt}

-- a Checkpoint stands at place k that no consistent set holds
pub record IsLost (T : Run) (k : ℕ) : Type 0 where
  pub point : Point
  pub checks : ChecksAt T k point
  pub lost : (steps : List ℕ) → IsConsistent T steps → ¬ Contains steps k

-- of the step at place k the cause may be asked: it is a Hold, a Drop or a Fall, or such a Checkpoint
abbrev pub IsAskable : Run → ℕ → Type 0
IsAskable T k = IsDecision T k ⊎ IsLost T k

-- what is asked, if anything is, may be
abbrev pub Allows : Run → Option ℕ → Type 0
Allows T None = Unit {0}
Allows T (Some k) = IsAskable T k

-- the cause of the step that is asked for, if one is and it has one
abbrev pub IsCauseOf : Run → List Marked → Option ℕ → Option (List Chained) → Type 0
IsCauseOf T cut None cause = cause ≡ None
IsCauseOf T cut (Some k) cause = IsCauseAt T cut k cause
