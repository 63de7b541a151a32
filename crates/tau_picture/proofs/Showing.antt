-- The state of a point among those that are seen, and the links that are drawn.
use Rattle.std.proofs.Common.{◌≡◌, ℕ, ◌<◌, ◌≤◌, List, length, get_or, Option, Some, None, ap, ◌∙◌, subst, arith}
use Rattle.std.specs.Prelude.{Contains}
use Rattle.tau_points.specs.declared.point.Point.{Point}
use Rattle.tau_explain.specs.declared.chains.chained.Chained.{Chained}
use Rattle.tau_trace.specs.Run.{Run}
use Rattle.tau_layout.specs.Lanes.{StandsIn, IsLaneAt}
use Rattle.tau_layout.proofs.LaneLemmas.{one_lane}
use Rattle.tau_layout.specs.Plans.{Plan, HasRank, HasX, IsRank, IsX}
use Rattle.tau_scene.specs.declared.timelines.states.State.{State}
use Rattle.tau_scene.specs.declared.looks.looks.Seen.{Seen}
use Rattle.tau_scene.specs.declared.looks.looks.Looks.{Looks}
use Rattle.tau_layout.specs.Paths.Inner.Ranks.{HasOneRank}
use Rattle.tau_layout.specs.declared.paths.spots.Spot.{Spot}
use Rattle.tau_drawing.specs.States.Names.{seen_at}
use Rattle.tau_picture.specs.Chains.{ShowsState, ShowsLink}
use Rattle.tau_picture.specs.Inner.Showing.{IsStateOf, IsPlaced, IsMakerOf}

-- where the first states are of other points, none is that of this point
pub none_of : (states : List Seen) (p : Point) (n : ℕ) → length states ≤ n → ((k : ℕ) (d : Seen) → k < n → ¬ ((get_or states k d).state.point ≡ p)) → IsStateOf states p None
none_of states p n le others s h e = others h.0 s (omega (arith, h.1, le)) (ap (λ (x : Seen). x.state.point) h.2 ∙ e)

-- a transactor without a lane shows no state
pub no_lane : (plan : Plan) (looks : Looks) (p : Point) → IsRank plan p.who None → IsPlaced plan looks p None
no_lane plan looks p none s x shows = none shows.rank shows.ranked

pub no_middle : (plan : Plan) (looks : Looks) (p : Point) → IsX plan p.who None → IsPlaced plan looks p None
no_middle plan looks p none s x shows = none x (record { rank = shows.rank; ranked = shows.ranked; is = shows.x_is })

-- nor one among whose states that of the point isn't
pub no_state : (plan : Plan) (looks : Looks) (p : Point) (rank : ℕ) → HasOneRank plan → HasRank plan p.who rank → IsStateOf (seen_at looks rank) p None → IsPlaced plan looks p None
no_state plan looks p rank one ranked none s x shows =
    none shows.seen (subst (λ r. Contains (seen_at looks r) shows.seen) (one p.who shows.rank rank shows.ranked ranked) shows.held)
    (ap (λ (y : State). y.point) shows.state_is ∙ shows.of)

pub one_state : (plan : Plan) (looks : Looks) (p : Point) (rank x : ℕ) (s : State) → HasOneRank plan → HasRank plan p.who rank → HasX plan p.who x → IsStateOf (seen_at looks rank) p (Some s) → ShowsState plan looks p s x
one_state plan looks p rank x s one ranked at is = record {
  rank = at.rank;
  ranked = at.ranked;
  x_is = at.is;
  seen = is.0;
  held = subst (λ r. Contains (seen_at looks r) is.0) (one p.who rank at.rank ranked at.ranked) is.1;
  state_is = is.2;
  of = is.3;
}

-- a link whose step isn't drawn in another lane isn't drawn, nor one to a state that isn't seen
pub no_maker : (T : Run) (plan : Plan) (looks : Looks) (c : Chained) → IsMakerOf T plan c None → (j x : ℕ) (spot : Spot) (s : State) → ¬ ShowsLink T plan looks c j spot s x
no_maker T plan looks c none j x spot s l = none j (record { by = l.by; drawn = l.drawn; apart = l.apart })

pub no_target : (T : Run) (plan : Plan) (looks : Looks) (c : Chained) → IsPlaced plan looks c.point None → (j x : ℕ) (spot : Spot) (s : State) → ¬ ShowsLink T plan looks c j spot s x
no_target T plan looks c none j x spot s l = none s x l.to
