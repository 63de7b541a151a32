-- The columns of a layout are the lanes of its plan.
use Rattle.std.proofs.Common.{◌≡◌, ◌∙◌, ℕ, ◌+◌, ◌≤◌, ◌<◌, ◌^◌, List, Some, length, get_or, sym, ap, subst, arith}
use Rattle.std.specs.Prelude.{slice_get, option_map}
use Rattle.std.proofs.lemmas.List.{length-map}
use Rattle.std.proofs.lemmas.Option.{slice_get-get_or, slice_get-map}
use Rattle.std.proofs.Math.Nat.{mul-le-mul_right}
use Rattle.tau_svg.specs.Markup.Lines.{Line}
use Rattle.tau_svg.specs.declared.shapes.grid.Grid.{Grid}
use Rattle.tau_svg.specs.Shapes.Grids.{x_of}
use Rattle.tau_svg.specs.Shapes.Each.{EachPlace, Writes}
use Rattle.tau_svg.proofs.Writing.{told_as, places_next}
use Rattle.tau_layout.specs.declared.columns.Column.{Column}
use Rattle.tau_layout.specs.declared.lanes.Lane.{Lane}
use Rattle.tau_layout.specs.Lanes.{nodes_below}
use Rattle.tau_layout.specs.Plans.{Plan, grid, lane_x}
use Rattle.tau_layout.specs.Inner.Laying.{lane_of, lanes_of, IsColumnOf}

rank_low : (g : Grid) (rank group : ℕ) → 28 ≤ g.lane → rank ≤ x_of g rank group
rank_low g rank group w = omega (arith, mul-le-mul_right rank w)

module _ (plan : Plan) (cs : List Column) (are : lanes_of cs ≡ plan.lanes) (each : IsColumnOf plan cs) where
  pub columns_length : length cs ≡ length plan.lanes
  columns_length = sym (length-map cs lane_of) ∙ ap length are

  module _ (k : ℕ) (d : Column) (lt : k < length cs) where
    column_at : slice_get cs k ≡ Some (get_or cs k d)
    column_at = slice_get-get_or cs k d lt

    -- the lane of a column, and its middle
    pub lane_at : slice_get plan.lanes k ≡ Some (lane_of (get_or cs k d))
    lane_at = ap (λ ls. slice_get ls k) (sym are) ∙ slice_get-map lane_of cs k ∙ ap (option_map lane_of) column_at

    pub x_at : (get_or cs k d).x ≡ lane_x plan k (lane_of (get_or cs k d))
    x_at = (each k (get_or cs k d) column_at).0

    pub left : 386 ≤ (get_or cs k d).x
    left = (each k (get_or cs k d) column_at).1

    pub right : (get_or cs k d).x < 2 ^ 50
    right = (each k (get_or cs k d) column_at).2

    pub rank_below : 28 ≤ (grid plan).lane → k < 2 ^ 50
    rank_below w = omega (arith, right, x_at, rank_low (grid plan) k (nodes_below plan.lanes (get_or cs k d).node) w)

    -- what is written at a column tells of its lane
    pub next : (P : ℕ → List Line → Type 0) (Q : ℕ → Lane → List Line → Type 0) (out old new : List ℕ)
        → ((lines : List Line) → Q (lane_x plan k (lane_of (get_or cs k d))) (lane_of (get_or cs k d)) lines → P k lines)
        → Writes (EachPlace P 0 k) out old → Writes (Q (get_or cs k d).x (lane_of (get_or cs k d))) old new → Writes (EachPlace P 0 (k + 1)) out new
    next P Q out old new to w one =
        let c = get_or cs k d in
        places_next P 0 k out old new w (told_as (Q c.x (lane_of c)) (P k) old new (λ lines q. to lines (subst (λ x. Q x (lane_of c) lines) x_at q)) one)
