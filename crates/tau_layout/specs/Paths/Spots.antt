-- Where steps are drawn (docs/formats.md, "Pictures").
use Rattle.std.specs.Prelude.{◌≡◌, ◌↔◌, ℕ, ◌-◌, Bool, Option, Some, None, IsTrue, ◌==◌}
use Rattle.tau_trace.specs.declared.step.Step.{Step}
use Rattle.tau_trace.specs.declared.step.Step.TheVariants.{Lose, Repeat}
use Rattle.tau_trace.specs.Run.{Run, step_at}
use Rattle.tau_trace.specs.Numbering.{IsOrigin}
use Rattle.tau_svg.specs.Shapes.Shapes.{beside}
use Rattle.tau_svg.specs.Shapes.Windows.{IsDrawn}
use Rattle.tau_layout.specs.Lanes.{StandsIn}
use Rattle.tau_layout.specs.Plans.{Plan, HasX, row_y}
use Rattle.tau_layout.specs.declared.paths.spots.Middle.{Middle}
use Rattle.tau_layout.specs.declared.paths.spots.Spot.{Spot}
use Rattle.tau_layout.specs.declared.paths.sources.Sender.{Sender}
use Rattle.tau_layout.specs.declared.paths.sources.Source.{Source}
use Rattle.tau_layout.specs.declared.paths.sources.Source.TheVariants.{Post, Earlier, Drawn}
use Rattle.tau_layout.specs.Paths.Senders.{ComesFromRight}

-- the transactor in whose lane the step at place k stands, and the middle of the lane; None where it stands in none
abbrev pub IsMiddle : Run → Plan → ℕ → Option Middle → Type 0
IsMiddle T plan k None = (t x : ℕ) → StandsIn T k t → ¬ HasX plan t x
IsMiddle T plan k (Some m) = StandsIn T k m.who × HasX plan m.who m.x

-- where a step of the lane of t stands, the middle of the lane being c: a Lose 16 beside it, a Repeat 16 to the left, and each
-- other in it
abbrev pub StandsBeside : Run → Plan → Step → ℕ → ℕ → ℕ → Type 0
StandsBeside T plan (Lose m) t c x = (right : Bool) × (IsTrue right ↔ ComesFromRight T plan m t) × (x ≡ beside right c 16)
StandsBeside T plan (Repeat m) t c x = x ≡ c - 16
StandsBeside T plan s t c x = x ≡ c

-- how far to the right the step s at place k stands; a step of no lane stands where the texts end
pub data IsSpotX (T : Run) (plan : Plan) (s : Step) (k x : ℕ) : Type 0 where
  in_lane : {t c : ℕ} → StandsIn T k t → HasX plan t c → StandsBeside T plan s t c x → IsSpotX T plan s k x
  in_none : ((t c : ℕ) → StandsIn T k t → ¬ HasX plan t c) → x ≡ 375 → IsSpotX T plan s k x

-- the spot of the step at place k
abbrev pub IsSpot : Run → Plan → ℕ → Spot → Type 0
IsSpot T plan k p = (s : Step) → step_at T k ≡ Some s → IsSpotX T plan s k p.x × (p.y ≡ row_y plan k)

-- the sender of message m: its origin, which is drawn, with the spot of that, whether the line to t comes from the right, and
-- whether the sender is t itself
pub record IsSender (T : Run) (plan : Plan) (m t : ℕ) (s : Sender) : Type 0 where
  pub origin : IsOrigin T s.origin.place s.origin.who m
  pub drawn : IsDrawn plan.window s.origin.place
  pub spot : IsSpot T plan s.origin.place s.spot
  pub right : IsTrue s.right ↔ ComesFromRight T plan m t
  pub own : s.own ≡ (s.origin.who == t)

-- where the line of message m to t begins: a post and its copies have no origin, and that of another message is drawn or isn't
abbrev pub IsSource : Run → Plan → ℕ → ℕ → Source → Type 0
IsSource T plan m t Post = (j by : ℕ) → ¬ IsOrigin T j by m
IsSource T plan m t (Earlier o) = IsOrigin T o.place o.who m × (¬ IsDrawn plan.window o.place)
IsSource T plan m t (Drawn s) = IsSender T plan m t s
