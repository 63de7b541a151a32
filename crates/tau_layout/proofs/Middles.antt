-- The middles of lanes, and the spots of steps.
use Rattle.std.proofs.Common.{◌≡◌, ℕ, List, Some, None, sym, ap, ◌∙◌, subst}
use Rattle.std.specs.Prelude.{slice_get, option_map}
use Rattle.std.proofs.lemmas.Option.{slice_get-map}
use Rattle.tau_trace.specs.Run.{Run}
use Rattle.tau_trace.proofs.Lists.{same_some}
use Rattle.tau_layout.specs.declared.columns.Column.{Column}
use Rattle.tau_layout.specs.Lanes.{StandsIn, IsLaneAt}
use Rattle.tau_layout.specs.Plans.{Plan, lane_x, HasRank, HasX, IsX}
use Rattle.tau_layout.specs.Inner.Laying.{lane_of, lanes_of, IsColumnOf}
use Rattle.tau_layout.proofs.LaneLemmas.{one_lane}
use Rattle.tau_layout.specs.Paths.Near.{IsNearX}
use Rattle.tau_layout.specs.Paths.Spots.{IsMiddle}

module _ (plan : Plan) (columns : List Column) (are : lanes_of columns ≡ plan.lanes) (is : IsColumnOf plan columns) where
  column_lane : (t rank : ℕ) (c : Column) (h : HasRank plan t rank) → slice_get columns rank ≡ Some c → h.lane ≡ lane_of c
  column_lane t rank c h at = same_some (sym h.at_rank ∙ ap (λ ls. slice_get ls rank) (sym are) ∙ slice_get-map lane_of columns rank ∙ ap (option_map lane_of) at)

  pub column_x : (t rank : ℕ) (c : Column) → HasRank plan t rank → slice_get columns rank ≡ Some c → HasX plan t c.x
  column_x t rank c h at = record { rank = rank; ranked = h; is = (is rank c at).0 ∙ ap (lane_x plan rank) (sym (column_lane t rank c h at)) }

  pub column_near : (rank : ℕ) (c : Column) → slice_get columns rank ≡ Some c → IsNearX c.x
  column_near rank c at = ((is rank c at).1, (is rank c at).2)

  pub column_there : (t rank : ℕ) → HasRank plan t rank → slice_get columns rank ≡ None → ⊥
  column_there t rank h at =
      let lane = sym h.at_rank ∙ ap (λ ls. slice_get ls rank) (sym are) ∙ slice_get-map lane_of columns rank ∙ ap (option_map lane_of) at in
      cc

-- a step of a lane has no other one
pub middle_none : (T : Run) (plan : Plan) (k w : ℕ) → StandsIn T k w → IsX plan w None → IsMiddle T plan k None
middle_none T plan k w at none = λ t x h has. none x (subst (λ (u : ℕ). HasX plan u x) (one_lane T k t w h at) has)

pub no_middle : (T : Run) (plan : Plan) (k : ℕ) → IsLaneAt T k None → IsMiddle T plan k None
no_middle T plan k none = λ t x h has. none t h
