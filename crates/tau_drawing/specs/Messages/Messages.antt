-- The message lines of a picture (docs/formats.md, "Pictures").
use Rattle.std.specs.Prelude.{◌≡◌, ◌↔◌, ℕ, Bool, List, [], ◌∷◌, Option, Some, None, IsTrue, option_and_then}
use Rattle.tau_svg.specs.Markup.Lines.{Line}
use Rattle.tau_value.specs.Val.{Val}
use Rattle.tau_tree.specs.declared.programs.Program.{Program}
use Rattle.tau_trace.specs.declared.step.Step.{Step}
use Rattle.tau_trace.specs.declared.step.Step.TheVariants.{Send, New, Repeat}
use Rattle.tau_trace.specs.Run.{Run, step_at}
use Rattle.tau_trace.specs.Numbering.{sent, IsNew, Receives, Removes}
use Rattle.tau_legal.specs.Turns.{HasValue}
use Rattle.tau_svg.specs.declared.shapes.window.Window.{Window}
use Rattle.tau_svg.specs.Shapes.Windows.{IsDrawn}
use Rattle.tau_svg.specs.Shapes.Each.{EachPlace}
use Rattle.tau_layout.specs.Lanes.{StandsIn}
use Rattle.tau_layout.specs.Plans.{Plan, HasX, grid, row_y}
use Rattle.tau_layout.specs.declared.paths.spots.Spot.{Spot}
use Rattle.tau_layout.specs.declared.paths.sources.Source.{Source}
use Rattle.tau_layout.specs.Paths.Senders.{met_by}
use Rattle.tau_layout.specs.Paths.Spots.{IsSpot, IsSource}
use Rattle.tau_drawing.specs.Messages.Arrows.{receipt_line, sent_line, new_line}

-- a drawn step receives or loses message m
abbrev pub Meets : Run → ℕ → ℕ → Type 0
Meets T k m = option_and_then met_by (step_at T k) ≡ Some m

pub record IsMet (T : Run) (v : Window) (m : ℕ) : Type 0 where
  pub place : ℕ
  pub drawn : IsDrawn v place
  pub meets : Meets T place m

-- the line of message m, which the step s at place k receives or loses: it leads to the lane in which the step stands
pub data IsReceiptLine (P : Program) (T : Run) (plan : Plan) (k : ℕ) (s : Step) (m : ℕ) (lines : List Line) : Type 0 where
  receipt_leads : {t x : ℕ} {v : Val} (source : Source) → StandsIn T k t → HasX plan t x → HasValue P T m v → IsSource T plan m t source → lines ≡ receipt_line T.opening.names (grid plan) k s m t v source (record { x = x; y = row_y plan k }) ∷ [] → IsReceiptLine P T plan k s m lines
  receipt_nowhere : ((t x : ℕ) → StandsIn T k t → ¬ HasX plan t x) → lines ≡ [] → IsReceiptLine P T plan k s m lines

-- the line of message m, which the step s at place k makes: there is none where a drawn step receives or loses it, and where it has
-- no receiver; it flies where no step of the run takes it
pub data IsSentLine (P : Program) (T : Run) (plan : Plan) (k : ℕ) (s : Step) (m : ℕ) (lines : List Line) : Type 0 where
  sent_leads : {t : ℕ} {v : Val} {flies : Bool} {p : Spot} → ¬ IsMet T plan.window m → Receives T m t → HasValue P T m v → (IsTrue flies ↔ ((j : ℕ) → ¬ Removes T m j)) → IsSpot T plan k p → lines ≡ sent_line T.opening.names k s m t v flies p ∷ [] → IsSentLine P T plan k s m lines
  sent_met : IsMet T plan.window m → lines ≡ [] → IsSentLine P T plan k s m lines
  sent_nowhere : ((t : ℕ) → ¬ Receives T m t) → lines ≡ [] → IsSentLine P T plan k s m lines

-- the line of the New of transactor t at place k: it leads to the lane of the one that t creates, where that has one
pub data IsNewLine (T : Run) (plan : Plan) (k t : ℕ) (lines : List Line) : Type 0 where
  new_leads : {u x : ℕ} {p : Spot} → IsNew T k t u → HasX plan u x → IsSpot T plan k p → lines ≡ new_line T.opening.names k t u p x ∷ [] → IsNewLine T plan k t lines
  new_nowhere : {u : ℕ} → IsNew T k t u → ((x : ℕ) → ¬ HasX plan u x) → lines ≡ [] → IsNewLine T plan k t lines

-- the line of a step by the message that it receives or loses; no other step has one
abbrev pub IsLineTo : Program → Run → Plan → ℕ → Step → Option ℕ → List Line → Type 0
IsLineTo P T plan k s (Some m) lines = IsReceiptLine P T plan k s m lines
IsLineTo P T plan k s None lines = lines ≡ []

-- the line of step s, which stands at place k
abbrev pub IsLineOf : Program → Run → Plan → ℕ → Step → List Line → Type 0
IsLineOf P T plan k (Send t u v) lines = IsSentLine P T plan k (Send t u v) (sent T k) lines
IsLineOf P T plan k (Repeat m) lines = IsSentLine P T plan k (Repeat m) (sent T k) lines
IsLineOf P T plan k (New t b n v) lines = IsNewLine T plan k t lines
IsLineOf P T plan k s lines = IsLineTo P T plan k s (met_by s) lines

-- the message line of the step at place k, or none
abbrev pub IsMessageLine : Program → Run → Plan → ℕ → List Line → Type 0
IsMessageLine P T plan k lines = (s : Step) → step_at T k ≡ Some s → IsLineOf P T plan k s lines

-- those of the steps that are drawn, by place
abbrev pub AreMessageLines : Program → Run → Plan → List Line → Type 0
AreMessageLines P T plan lines = EachPlace (IsMessageLine P T plan) plan.window.from plan.window.to lines
