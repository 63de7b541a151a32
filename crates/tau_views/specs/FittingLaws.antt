-- Views of fitting traces, whatever the program (docs/definitions.md, "Settled").
use Rattle.std.specs.Prelude.{ℕ, ◌<◌}
use Rattle.tau_view.specs.Held.{Held}
use Rattle.tau_view.specs.Rules.{merged}
use Rattle.tau_view.specs.Past.{Settled}
use Rattle.tau_tree.specs.declared.programs.Program.{Program}
use Rattle.tau_trace.specs.Run.{Run}
use Rattle.tau_trace.specs.Numbering.{born, sent}
use Rattle.tau_trace.specs.Known.{WellFormed}
use Rattle.tau_legal.specs.Traces.{Fitting}
use Rattle.tau_views.specs.Views.{IsViewOf, IsMessageView}
use Rattle.tau_views.specs.DecisionLaws.{AreViewsOf}

-- the view of what a transactor has heard is settled
abbrev pub FittingViewsAreSettled : Type 0
FittingViewsAreSettled = (P : Program) (T : Run) (t k : ℕ) (x : Held) → WellFormed T → Fitting P T → t < born T k → IsViewOf T t k x → Settled x

-- and so is that of what a message has heard
abbrev pub FittingMessageViewsAreSettled : Type 0
FittingMessageViewsAreSettled = (P : Program) (T : Run) (k m : ℕ) (y : Held) → WellFormed T → Fitting P T → m < sent T k → IsMessageView T m y → Settled y

-- and the two merged
abbrev pub FittingMergedViewsAreSettled : Type 0
FittingMergedViewsAreSettled = (P : Program) (T : Run) (t k m : ℕ) (x y : Held) → WellFormed T → Fitting P T → AreViewsOf T t k m x y → Settled (merged x y)
