-- The lines of lanes, of the strip, of states and of ends are told once.
use Rattle.std.proofs.Common.{◌≡◌, ℕ, ◌+◌, ◌*◌, ◌/◌, List, [], ◌∷◌, ◌++◌, length, Option, Some, None, refl, sym, ap, ◌∙◌, subst, arith}
use Rattle.std.specs.Prelude.{slice_get}
use Rattle.std.specs.List.{flat_map}
use Rattle.tau_svg.specs.Markup.Lines.{Line}
use Rattle.tau_value.specs.Written.{name_written}
use Rattle.tau_trace.specs.Run.{Run, len}
use Rattle.tau_trace.specs.Known.{IsSound}
use Rattle.tau_trace.specs.Places.{IsFirst, IsLeastFrom}
use Rattle.tau_trace.specs.Histories.{EndsAt}
use Rattle.tau_trace.proofs.Lists.{same_some}
use Rattle.tau_trace.proofs.Once.{new_once}
use Rattle.tau_past.specs.Tables.{IsBirth}
use Rattle.tau_svg.specs.Shapes.Windows.{count}
use Rattle.tau_svg.specs.Shapes.Each.{EachItem}
use Rattle.tau_layout.specs.declared.lanes.Lane.{Lane}
use Rattle.tau_layout.specs.Lanes.{AreLanes}
use Rattle.tau_layout.specs.Plans.{Plan, grid, lane_x, HasRank}
use Rattle.tau_layout.proofs.LaneLemmas.{one_lane}
use Rattle.tau_scene.proofs.Currents.{least_once}
use Rattle.tau_scene.specs.Words.Texts.{who_text}
use Rattle.tau_scene.specs.declared.looks.looks.Seen.{Seen}
use Rattle.tau_scene.specs.declared.looks.looks.Looks.{Looks}
use Rattle.tau_layout.proofs.Ranks.{has_one_rank}
use Rattle.tau_layout.proofs.Once.{each_once, same_bool}
use Rattle.tau_drawing.specs.Lanes.LaneLines.{top_name, axis_line, axis_top, axis_foot, AreLinesAt, IsLane, AreLaneLines}
use Rattle.tau_drawing.specs.Lanes.NameLines.{names_foot, named_lines, IsNamed, IsNamesLine, AreNameLines}
use Rattle.tau_drawing.specs.States.Names.{seen_at}
use Rattle.tau_drawing.specs.States.StripLines.{label_line, span_lines, IsStripLane, IsRankAt, class_at, tick_lines, IsTick, IsStrip, AreStripLines, with_strip, without, frame_line, place_lines}
use Rattle.tau_drawing.specs.States.StateLines.{IsCrowded, IsCrossed, state_lines, IsStateAt, AreStatesAt, AreStateLines}
use Rattle.tau_drawing.specs.States.EndLines.{heading_line, ending_lines, IsEndAt, AreEndLines}
use Rattle.tau_picture.proofs.EachOnce.{items_once}

-- the lines of a lane

birth_once : (T : Run) (u : ℕ) (o q : Option ℕ) → IsBirth T u o → IsBirth T u q → o ≡ q
birth_once T u None None a b = refl
birth_once T u None (Some j) a b = absurd (a j b.0 b.1)
birth_once T u (Some i) None a b = absurd (b i a.0 a.1)
birth_once T u (Some i) (Some j) a b = ap Some (new_once T i j a.0 b.0 u a.1 b.1)

first_least : (P : ℕ → Type 0) (n : ℕ) (o : Option ℕ) → IsFirst P n o → IsLeastFrom 0 P n o
first_least P n None h = λ j ge lt. h j lt
first_least P n (Some k) h = (omega arith, h.0, h.1, λ j ge lt. h.2 j lt)

first_once : (P : ℕ → Type 0) (n : ℕ) (o q : Option ℕ) → IsFirst P n o → IsFirst P n q → o ≡ q
first_once P n o q a b = least_once 0 n P o q (first_least P n o a) (first_least P n q b)

module _ (T : Run) (plan : Plan) where
  lines_at_once : (x : ℕ) (lane : Lane) (ls ks : List Line) → AreLinesAt T plan x lane ls → AreLinesAt T plan x lane ks → ls ≡ ks
  lines_at_once x lane ls ks a b =
      let birth : a.birth ≡ b.birth = birth_once T lane.who a.birth b.birth a.birth_is b.birth_is in
      let end : a.end ≡ b.end = first_once (EndsAt T lane.who) (len T) a.end b.end a.end_is b.end_is in
      let name = name_written T.opening.names lane.who in
      a.are ∙ (λ i. top_name (grid plan) x name ∷ axis_line x (axis_top plan (birth i)) (axis_foot plan (end i)) name lane.node ∷ []) ∙ sym b.are

  lane_once : (rank : ℕ) (ls ks : List Line) → IsLane T plan rank ls → IsLane T plan rank ks → ls ≡ ks
  lane_once rank ls ks a b =
      let lane : a.lane ≡ b.lane = same_some (sym a.at_rank ∙ b.at_rank) in
      lines_at_once (lane_x plan rank b.lane) b.lane ls ks (subst (λ (l : Lane). AreLinesAt T plan (lane_x plan rank l) l ls) lane a.told) b.told

  pub lane_lines_once : (ls ks : List Line) → AreLaneLines T plan ls → AreLaneLines T plan ks → ls ≡ ks
  lane_lines_once ls ks x y = each_once (IsLane T plan) 0 (length plan.lanes) (λ k ge lt l m p q. lane_once k l m p q) ls ks x y

  -- the names of lanes between the rows

  named_once : (rows rank : ℕ) (ls ks : List Line) → IsNamed T plan rows rank ls → IsNamed T plan rows rank ks → ls ≡ ks
  named_once rows rank ls ks a b =
      a.are ∙ ap (λ (l : Lane). named_lines (grid plan) (lane_x plan rank l) (names_foot (grid plan) rows) (name_written T.opening.names l.who)) (same_some (sym a.at_rank ∙ b.at_rank)) ∙ sym b.are

  names_line_once : (n : ℕ) (ls ks : List Line) → IsNamesLine T plan n ls → IsNamesLine T plan n ks → ls ≡ ks
  names_line_once n ls ks x y = each_once (IsNamed T plan (50 * n)) 0 (length plan.lanes) (λ k ge lt l m p q. named_once (50 * n) k l m p q) ls ks x y

  pub name_lines_once : (ls ks : List Line) → AreNameLines T plan ls → AreNameLines T plan ks → ls ≡ ks
  name_lines_once ls ks x y = each_once (IsNamesLine T plan) 1 (count plan.window / 50 + 1) (λ k ge lt l m p q. names_line_once k l m p q) ls ks x y

  -- the lines of a state

  state_at_once : (x : ℕ) (s : Seen) (ls ks : List Line) → IsStateAt T plan x s ls → IsStateAt T plan x s ks → ls ≡ ks
  state_at_once x s ls ks a b =
      let crowded : a.crowded ≡ b.crowded = same_bool a.crowded b.crowded (IsCrowded T plan s.state) a.crowded_is b.crowded_is in
      let crossed : a.crossed ≡ b.crossed = same_bool a.crossed b.crossed (IsCrossed T plan s.state) a.crossed_is b.crossed_is in
      a.are ∙ (λ i. state_lines plan T.opening.names x s (crowded i) (crossed i)) ∙ sym b.are

  module _ (looks : Looks) where
    states_at_once : (rank : ℕ) (ls ks : List Line) → AreStatesAt T plan looks rank ls → AreStatesAt T plan looks rank ks → ls ≡ ks
    states_at_once rank ls ks a b =
        items_once (IsStateAt T plan (lane_x plan rank b.lane)) (state_at_once (lane_x plan rank b.lane)) (seen_at looks rank) ls ks
        (subst (λ (l : Lane). EachItem (IsStateAt T plan (lane_x plan rank l)) (seen_at looks rank) ls) (same_some (sym a.at_rank ∙ b.at_rank)) a.are) b.are

    pub state_lines_once : (ls ks : List Line) → AreStateLines T plan looks ls → AreStateLines T plan looks ks → ls ≡ ks
    state_lines_once ls ks x y = each_once (AreStatesAt T plan looks) 0 (length plan.lanes) (λ k ge lt l m p q. states_at_once k l m p q) ls ks x y

    end_once : (rank : ℕ) (ls ks : List Line) → IsEndAt T.opening.names plan looks rank ls → IsEndAt T.opening.names plan looks rank ks → ls ≡ ks
    end_once rank ls ks a b =
        a.are ∙ ap (λ (l : Lane). ending_lines plan rank (lane_x plan rank l) (who_text T.opening.names l.who) (slice_get looks.ends.items rank)) (same_some (sym a.at_rank ∙ b.at_rank)) ∙ sym b.are

    pub end_lines_once : (ls ks : List Line) → AreEndLines T plan looks ls → AreEndLines T plan looks ks → ls ≡ ks
    end_lines_once ls ks a b =
        let lanes : a.lanes ≡ b.lanes = each_once (IsEndAt T.opening.names plan looks) 0 (length plan.lanes) (λ k ge lt l m p q. end_once k l m p q) a.lanes b.lanes a.lanes_are b.lanes_are in
        a.are ∙ ap (λ x. heading_line plan ∷ x) lanes ∙ sym b.are

    strip_lane_once : (rank : ℕ) (ls ks : List Line) → IsStripLane T.opening.names plan looks rank ls → IsStripLane T.opening.names plan looks rank ks → ls ≡ ks
    strip_lane_once rank ls ks a b =
        a.are ∙ ap (λ (l : Lane). label_line rank (who_text T.opening.names l.who) ∷ flat_map (span_lines plan rank) (seen_at looks rank)) (same_some (sym a.at_rank ∙ b.at_rank)) ∙ sym b.are

    module _ (sound : IsSound T.opening) (is : AreLanes T plan.window plan.lanes) where
      rank_once : (k : ℕ) (o q : Option ℕ) → IsRankAt T plan k o → IsRankAt T plan k q → o ≡ q
      rank_once k None None a b = refl
      rank_once k None (Some r) a b = absurd (a b.0 r b.1 b.2)
      rank_once k (Some r) None a b = absurd (b a.0 r a.1 a.2)
      rank_once k (Some r) (Some s) a b =
          let who : a.0 ≡ b.0 = one_lane T k a.0 b.0 a.1 b.1 in
          ap Some (has_one_rank T sound plan is b.0 r s (subst (λ (t : ℕ). HasRank plan t r) who a.2) b.2)

      tick_once : (k : ℕ) (ls ks : List Line) → IsTick T plan looks k ls → IsTick T plan looks k ks → ls ≡ ks
      tick_once k ls ks a b = a.are ∙ ap (λ r. tick_lines T plan k r (class_at plan looks k)) (rank_once k a.rank b.rank a.rank_is b.rank_is) ∙ sym b.are

      strip_told : (ls ks : List Line) → IsStrip T plan looks ls → IsStrip T plan looks ks → ls ≡ ks
      strip_told ls ks a b =
          let lanes : a.lanes ≡ b.lanes = each_once (IsStripLane T.opening.names plan looks) 0 (length plan.lanes) (λ k ge lt l m p q. strip_lane_once k l m p q) a.lanes b.lanes a.lanes_are b.lanes_are in
          let ticks : a.ticks ≡ b.ticks = each_once (IsTick T plan looks) plan.window.from plan.window.to (λ k ge lt l m p q. tick_once k l m p q) a.ticks b.ticks a.ticks_are b.ticks_are in
          a.are ∙ (λ i. frame_line plan ∷ (lanes i ++ ticks i ++ place_lines plan)) ∙ sym b.are

      pub strip_once : (ls ks : List Line) → AreStripLines T plan looks ls → AreStripLines T plan looks ks → ls ≡ ks
      strip_once ls ks (with_strip room a) (with_strip more b) = strip_told ls ks a b
      strip_once ls ks (with_strip room a) (without e) = absurd (omega (arith, room, e))
      strip_once ls ks (without e) (with_strip room b) = absurd (omega (arith, room, e))
      strip_once ls ks (without e) (without f) = refl
