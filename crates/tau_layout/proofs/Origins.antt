-- The origins of messages, and the sides from which they come.
use Rattle.std.proofs.Common.{◌↔◌, ℕ, leb, Bool, false, Some, None, subst, arith}
use Rattle.std.specs.Prelude.{IsTrue}
use Rattle.std.proofs.lemmas.Bool.{leb-true, le-leb}
use Rattle.tau_trace.specs.Run.{Run}
use Rattle.tau_trace.specs.Numbering.{IsOrigin, HasSender, IsPlaceOf, IsSender}
use Rattle.tau_trace.proofs.Once.{origin_once, origin_is_one}
use Rattle.tau_svg.specs.Shapes.Windows.{IsDrawn}
use Rattle.tau_layout.specs.Plans.{Plan, HasRank, IsRank}
use Rattle.tau_layout.specs.declared.paths.senders.Origin.{Origin}
use Rattle.tau_layout.specs.Paths.Senders.{IsOriginOf, StandsRight, ComesFromRight}
use Rattle.tau_layout.specs.Paths.Inner.Ranks.{HasOneRank}

pub origin_told : (T : Run) (m j u : ℕ) → IsPlaceOf T m (Some j) → HasSender T m u → IsOrigin T j u m
origin_told T m j u p s = subst (λ (i : ℕ). IsOrigin T i u m) (origin_once T s.place j u p.0 m s.origin p.1) s.origin

pub no_sender : (T : Run) (m : ℕ) → IsSender T m None → IsOriginOf T m None
no_sender T m none = λ j by o. none by (record { place = j; origin = o })

-- the truth that a lane has at least a rank

not_true : (P : Type 0) → ¬ P → IsTrue false ↔ P
not_true P none = (λ h. absurd (cc), λ p. absurd (none p))

pub right_none : (plan : Plan) (u t : ℕ) → IsRank plan u None → IsTrue false ↔ StandsRight plan u t
right_none plan u t none = not_true (StandsRight plan u t) (λ s. none s.rank s.rank_is)

pub right_told : (plan : Plan) (u t rank least : ℕ) → HasOneRank plan → HasRank plan u rank → HasRank plan t least → IsTrue (leb least rank) ↔ StandsRight plan u t
right_told plan u t rank least one r l = (
  λ h. record { rank = rank; other = least; rank_is = r; other_is = l; least = leb-true least rank h },
  λ s. le-leb least rank (omega (arith, s.least, one u s.rank rank s.rank_is r, one t s.other least s.other_is l)),
)

-- the truth that a message comes from the right

sender_drawn : (T : Run) (plan : Plan) (m t : ℕ) (o : Origin) (c : ComesFromRight T plan m t) → IsOrigin T o.place o.who m → IsDrawn plan.window o.place
sender_drawn T plan m t o c at = subst (IsDrawn plan.window) (origin_is_one T c.place o.place c.sender o.who m c.origin at).0 c.drawn

sender_right : (T : Run) (plan : Plan) (m t : ℕ) (o : Origin) (c : ComesFromRight T plan m t) → IsOrigin T o.place o.who m → StandsRight plan o.who t
sender_right T plan m t o c at = subst (λ (u : ℕ). StandsRight plan u t) (origin_is_one T c.place o.place c.sender o.who m c.origin at).1 c.right

pub sender_left : (T : Run) (plan : Plan) (m t : ℕ) (o : Origin) → IsOrigin T o.place o.who m → ¬ IsDrawn plan.window o.place → IsTrue false ↔ ComesFromRight T plan m t
sender_left T plan m t o at none = not_true (ComesFromRight T plan m t) (λ c. none (sender_drawn T plan m t o c at))

pub sides : (T : Run) (plan : Plan) (m t : ℕ) (o : Origin) (r : Bool) → IsOrigin T o.place o.who m → IsDrawn plan.window o.place → (IsTrue r ↔ StandsRight plan o.who t) → IsTrue r ↔ ComesFromRight T plan m t
sides T plan m t o r at drawn told = (
  λ h. record { place = o.place; sender = o.who; origin = at; drawn = drawn; right = told.0 h },
  λ c. told.1 (sender_right T plan m t o c at),
)
