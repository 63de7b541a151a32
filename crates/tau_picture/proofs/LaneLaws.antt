-- Lanes stand apart, and what is drawn stands within the picture.
use Rattle.std.proofs.Common.{◌≡◌, ⊎_elim, ℕ, zero, suc, ◌+◌, ◌-◌, ◌*◌, ◌/◌, ◌<◌, ◌≤◌, Bool, true, false, ◌||◌, cond, List, [], ◌∷◌, length, get_or, Option, Some, None, refl, sym, ap, ◌∙◌, subst, arith, eq-eqb, ltb-true}
use Rattle.std.specs.Prelude.{Contains, slice_get, nat_le, nat_lt}
use Rattle.std.proofs.Math.Nat.{mul-add, mul-le-mul_left}
use Rattle.std.proofs.lemmas.List.Elements.{All-contains}
use Rattle.std.proofs.lemmas.Option.{slice_get_within, get_or_from_slice_get}
use Rattle.tau_trace.specs.declared.step.Step.{Step}
use Rattle.tau_trace.specs.declared.step.Step.TheVariants.{New, Lose, Repeat}
use Rattle.tau_trace.specs.Run.{Run, len}
use Rattle.tau_trace.specs.Known.{WellFormed}
use Rattle.tau_trace.specs.Numbering.{IsHome, start, created}
use Rattle.tau_trace.proofs.Counts.{count-suc, count-grows}
use Rattle.tau_trace.proofs.Lists.{same_some}
use Rattle.tau_svg.specs.declared.shapes.window.Window.{Window}
use Rattle.tau_svg.specs.Shapes.Grids.{rows_height}
use Rattle.tau_svg.specs.Shapes.Shapes.{beside}
use Rattle.tau_svg.specs.Shapes.Windows.{IsDrawn, count, row_of, window_of}
use Rattle.tau_layout.specs.declared.lanes.Lane.{Lane}
use Rattle.tau_layout.specs.Lanes.{ComesBefore, stands_at, nodes_below}
use Rattle.tau_layout.specs.Plans.{Plan, IsPlan, grid, lane_x, row_y}
use Rattle.tau_scene.specs.declared.timelines.states.State.{State}
use Rattle.tau_scene.specs.Timelines.States.{IsSeen}
use Rattle.tau_scene.proofs.Beginnings.{cases_lt}
use Rattle.tau_layout.specs.declared.paths.spots.Spot.{Spot}
use Rattle.tau_layout.specs.Paths.Spots.{StandsBeside, IsSpotX, in_lane, in_none, IsSpot}
use Rattle.tau_drawing.specs.States.StateLines.{state_top, end_foot, state_foot}
use Rattle.tau_picture.specs.Laws.{StandApart, LanesStandApart}
use Rattle.tau_picture.proofs.Whole.{ends_within, step_there}
use Rattle.tau_picture.proofs.OnePlan.{comes_once}

-- measures

width_least : (a b : Bool) → 28 ≤ cond a 116 (cond b 44 28)
width_least true b = omega arith
width_least false true = omega arith
width_least false false = omega arith

height_least : (a : Bool) → 14 ≤ cond a 18 14
height_least true = omega arith
height_least false = omega arith

height_most : (a : Bool) → cond a 18 14 ≤ 18
height_most true = omega arith
height_most false = omega arith

-- the first row stands below the band
top_least : (over longest : ℕ) (a : Bool) → 120 < cond a (78 + over + 58) (78 + over + 46 + 7 * longest)
top_least over longest true = omega arith
top_least over longest false = omega arith

-- one lane more takes one width more
step_up : (w q r : ℕ) → q < r → w * q + w ≤ w * r
step_up w q r lt =
    let more : w * (q + 1) ≤ w * r = mul-le-mul_left w (omega (arith, lt)) in
    let split : w * (q + 1) ≡ w * q + w * 1 = mul-add w q 1 in
    omega (arith, more, split)

-- and no fewer lines of names
lines_up : (names a n : ℕ) → a < n → names * (a / 50) ≤ names * (n / 50)
lines_up names a n lt = mul-le-mul_left names (omega (arith, lt))

-- the middle of a lane, within the width of all
within_width : (w rank lanes group nodes : ℕ) → 28 ≤ w → rank < lanes → group < nodes → 372 + w * rank + 12 * group + w / 2 + 16 < 384 + w * lanes + 12 * nodes
within_width w rank lanes group nodes least lt less = omega (arith, least, less, step_up w rank lanes lt)

row_within : (top row names n a : ℕ) → 14 ≤ row → a < n → top + rows_height row names a < top + rows_height row names n
row_within top row names n a least lt = omega (arith, least, step_up row a n lt, lines_up names a n lt)

above_row : (top row names a : ℕ) → row ≤ 18 → top ≤ top + rows_height row names a - row / 2 + 1 + 12
above_row top row names a short = omega (arith, short)

below_row : (top row names n a : ℕ) → a < n → top + rows_height row names a + row / 2 - 1 ≤ top + rows_height row names n
below_row top row names n a lt = omega (arith, step_up row a n lt, lines_up names a n lt)

-- nodes

or_left : (a b : Bool) → a ≡ true → (a || b) ≡ true
or_left true b h = refl
or_left false b h = cc

or_right : (a b : Bool) → b ≡ true → (a || b) ≡ true
or_right true b h = refl
or_right false b h = h

stands_here : (lanes : List Lane) (k : ℕ) (l : Lane) → slice_get lanes k ≡ Some l → stands_at lanes l.node ≡ true
stands_here [] k l e = absurd (cc)
stands_here (x ∷ xs) zero l e = or_left _ (stands_at xs l.node) (eq-eqb x.node l.node (ap (λ (m : Lane). m.node) (same_some e)))
stands_here (x ∷ xs) (suc k) l e = or_right _ (stands_at xs l.node) (stands_here xs k l e)

nodes_more : (lanes : List Lane) (k n : ℕ) (l : Lane) → slice_get lanes k ≡ Some l → l.node < n → nodes_below lanes l.node < nodes_below lanes n
nodes_more lanes k n l e lt =
    let one : nodes_below lanes (suc l.node) ≡ nodes_below lanes l.node + 1 = count-suc (stands_at lanes) l.node ∙ ap (λ b. nodes_below lanes l.node + cond b 1 0) (stands_here lanes k l e) in
    omega (arith, one, count-grows (stands_at lanes) (suc l.node) n (omega (arith, lt)))

-- a node exists
home_low : (T : Run) → WellFormed T → (t n : ℕ) → IsHome T t n → n < T.opening.nodes
home_low T w t n (start e) =
    All-contains (λ m. m < T.opening.nodes) T.opening.homes n w.opening.homes (t, slice_get_within T.opening.homes t n e, get_or_from_slice_get T.opening.homes t n n e)
home_low T w t n (created {j = j} {by = by} b e) = omega (arith, e, (w.known j (New by b.behaviour b.node b.state) b.stands).2)

row_drawn : (v : Window) (k : ℕ) → IsDrawn v k → row_of v k < count v
row_drawn v k d = omega (arith, d.0, d.1)

-- the box of a state

module _ (plan : Plan) where
  tall : 14 ≤ (grid plan).row
  tall = height_least (nat_le (count plan.window) 200)

  short : (grid plan).row ≤ 18
  short = height_most (nat_le (count plan.window) 200)

  top_within : (s : State) → (grid plan).top ≤ state_top plan s + 12
  top_within s = by (nat_le s.begin plan.window.from) where
    by : (b : Bool) → (grid plan).top ≤ cond b ((grid plan).top - 12) (row_y plan s.begin - (grid plan).row / 2 + 1) + 12
    by true = omega arith
    by false = above_row (grid plan).top (grid plan).row (grid plan).names (row_of plan.window s.begin) short

  foot_within : (o : Option ℕ) → ((e : ℕ) → o ≡ Some e → plan.window.from ≤ e) → end_foot plan o ≤ (grid plan).foot
  foot_within None seen = omega arith
  foot_within (Some k) seen = by (nat_lt k plan.window.to) refl where
    by : (b : Bool) → nat_lt k plan.window.to ≡ b → cond b (row_y plan k + (grid plan).row / 2 - 1) (grid plan).foot ≤ (grid plan).foot
    by true e = below_row (grid plan).top (grid plan).row (grid plan).names (count plan.window) (row_of plan.window k) (row_drawn plan.window k (seen k refl, ltb-true k plan.window.to e))
    by false e = omega arith

module _ (T : Run) (v : Window) (plan : Plan) (w : WellFormed T) (within : v.to ≤ len T) (is : IsPlan T v plan) where
  abbrev lane_at : ℕ → Lane → Type 0
  lane_at k l = slice_get plan.lanes k ≡ Some l

  before : (q r : ℕ) (l m : Lane) → lane_at q l → lane_at r m → q < r → ComesBefore l m
  before q r l m e f lt =
      subst (λ (x : Lane). ComesBefore x m) (get_or_from_slice_get plan.lanes q l l e)
      (subst (λ (x : Lane). ComesBefore (get_or plan.lanes q l) x) (get_or_from_slice_get plan.lanes r m l f) (is.lanes_are.ascending q r l lt (slice_get_within plan.lanes r m f)))

  ranks_up : (q r : ℕ) (l m : Lane) → lane_at q l → lane_at r m → ComesBefore l m → q < r
  ranks_up q r l m e f c = ⊎_elim
      (λ lt. lt)
      (λ ge. ⊎_elim
      (λ lt. absurd (comes_once l m c (before r q m l f e lt)))
      (λ le.
      let same : l ≡ m = same_some (sym e ∙ ap (slice_get plan.lanes) (omega (arith, ge, le)) ∙ f) in
      let own : ComesBefore m m = subst (λ (x : Lane). ComesBefore x m) same c in
      absurd (comes_once m m own own))
      (cases_lt r q))
      (cases_lt q r)

  least : 28 ≤ (grid plan).lane
  least = width_least (nat_le (length plan.lanes) 6) (nat_le (length plan.lanes) 24)

  nodes_up : (l m : Lane) → ComesBefore l m → nodes_below plan.lanes l.node ≤ nodes_below plan.lanes m.node
  nodes_up l m c = count-grows (stands_at plan.lanes) l.node m.node (⊎_elim (λ a. omega (arith, a)) (λ b. omega (arith, b.0)) c)

  apart : (q r : ℕ) (l m : Lane) → lane_at q l → lane_at r m → ComesBefore l m → lane_x plan q l + 28 ≤ lane_x plan r m
  apart q r l m e f c =
      let g = (grid plan).lane in
      omega (arith, least, nodes_up l m c, step_up g q r (ranks_up q r l m e f c))

  lane_low : (rank : ℕ) (l : Lane) → lane_at rank l → nodes_below plan.lanes l.node < plan.nodes
  lane_low rank l e =
      let there : Contains plan.lanes l = (rank, slice_get_within plan.lanes rank l e, get_or_from_slice_get plan.lanes rank l l e) in
      subst (λ n. nodes_below plan.lanes l.node < n) (sym is.nodes_is) (nodes_more plan.lanes rank T.opening.nodes l e (home_low T w l.who l.node (is.lanes_are.only l there).1))

  lanes_within : (rank : ℕ) (l : Lane) → lane_at rank l → (386 ≤ lane_x plan rank l) × (lane_x plan rank l + 16 < (grid plan).width)
  lanes_within rank l e =
      let g = (grid plan).lane in
      let group = nodes_below plan.lanes l.node in
      let inside = within_width g rank (length plan.lanes) group plan.nodes least (slice_get_within plan.lanes rank l e) (lane_low rank l e) in
      (omega (arith, least), omega (arith, inside))

  beside_within : (s : Step) (t c x : ℕ) → StandsBeside T plan s t c x → c + 16 < (grid plan).width → x < (grid plan).width
  beside_within (Lose m) t c x b lt = side b.0 (sym b.2) where
    side : (right : Bool) → beside right c 16 ≡ x → x < (grid plan).width
    side true e = omega (arith, e, lt)
    side false e = omega (arith, e, lt)
  beside_within (Repeat m) t c x b lt = omega (arith, b, lt)
  beside_within s t c x b lt = omega (arith, b, lt)

  spot_within : (s : Step) (k x : ℕ) → IsSpotX T plan s k x → x < (grid plan).width
  spot_within s k x (in_lane {t = t} {c = c} h a b) =
      beside_within s t c x b (subst (λ z. z + 16 < (grid plan).width) (sym a.is) (lanes_within a.rank a.ranked.lane a.ranked.at_rank).1)
  spot_within s k x (in_none none e) = omega (arith, e)

  spots_within : (k : ℕ) (p : Spot) → IsDrawn plan.window k → IsSpot T plan k p → (p.x < (grid plan).width) × ((grid plan).top ≤ p.y) × (p.y < (grid plan).foot)
  spots_within k p d at =
      let bound : plan.window.to ≤ len T = subst (λ (u : Window). u.to ≤ len T) (sym is.window_is) within in
      let s = step_there T k (omega (arith, d.1, bound)) in
      let spot = at s.0 s.1 in
      let low = row_within (grid plan).top (grid plan).row (grid plan).names (count plan.window) (row_of plan.window k) (tall plan) (row_drawn plan.window k d) in
      (spot_within s.0 k p.x spot.0, omega (arith, spot.1), subst (λ y. y < (grid plan).foot) (sym spot.1) low)

  states_within : (s : State) → IsSeen plan.window s → ((grid plan).top ≤ state_top plan s + 12) × (state_foot plan s ≤ (grid plan).foot)
  states_within s seen = (top_within plan s, foot_within plan s.end seen.1)

  rows_within : (120 < (grid plan).top) × ((grid plan).foot < (grid plan).height)
  rows_within = (top_least (grid plan).over plan.longest (nat_le (length plan.lanes) 6), omega arith)

  stand_apart : StandApart T plan
  stand_apart = record { apart = apart; lanes_within = lanes_within; spots_within = spots_within; states_within = states_within; rows_within = rows_within }

pub lanes_stand_apart : LanesStandApart
lanes_stand_apart P T from to ask lines picture w = stand_apart T (window_of (len T) from to) picture.plan w (ends_within (len T) from to) picture.is_plan
