-- Lines that are told by what is shown alone, not by how it is stored.
use Rattle.std.proofs.Common.{◌≡◌, ℕ, ◌+◌, ◌-◌, List, [], ◌∷◌, ◌++◌, length, Option, Some, None, refl, ap, ◌∙◌, subst}
use Rattle.std.specs.Prelude.{slice_get, option_and_then, codes}
use Rattle.std.specs.List.{flat_map}
use Rattle.tau_svg.specs.Markup.Texts.{cut}
use Rattle.tau_svg.specs.Markup.Lines.{plain, number, said, titled, Line}
use Rattle.tau_trace.specs.Run.{Run}
use Rattle.tau_trace.proofs.Lists.{same_some}
use Rattle.tau_svg.specs.Shapes.Each.{EachItem}
use Rattle.tau_svg.specs.Shapes.Shapes.{line, symbol_at, text_at}
use Rattle.tau_layout.specs.Plans.{Plan, lane_x}
use Rattle.tau_scene.specs.Words.Texts.{who_text, step_text, bare_text}
use Rattle.tau_scene.specs.declared.looks.looks.Seen.{Seen}
use Rattle.tau_scene.specs.declared.looks.looks.StepLook.{StepLook}
use Rattle.tau_scene.specs.declared.looks.looks.Ending.{Ending}
use Rattle.tau_scene.specs.declared.looks.looks.Looks.{Looks}
use Rattle.tau_layout.specs.declared.paths.spots.Spot.{Spot}
use Rattle.tau_drawing.specs.Marks.Marks.{symbol_word, undone_class, mark_line, IsMark, AreMarks}
use Rattle.tau_drawing.specs.Marks.Rows.{row_word, place_line, row_line, IsRow, AreRows}
use Rattle.tau_drawing.specs.States.Names.{tick_class, seen_at}
use Rattle.tau_drawing.specs.States.StripLines.{label_line, span_lines, IsStripLane, tick_lines, IsTick, AreStripLines, with_strip, without}
use Rattle.tau_drawing.specs.States.StateLines.{IsStateAt, AreStatesAt, AreStateLines}
use Rattle.tau_drawing.specs.States.EndLines.{end_lines, ending_lines, IsEndAt, AreEndLines}
use Rattle.tau_picture.proofs.EachOnce.{each_as}

-- the looks of a step are the same, and what may be kept of a transactor is
pub record IsAlike (a b : StepLook) : Type 0 where
  pub mark_is : a.mark ≡ b.mark
  pub row_is : a.row ≡ b.row
  pub undone_is : a.undone ≡ b.undone
  pub note_is : a.note.items ≡ b.note.items

abbrev pub AreAlike : Option StepLook → Option StepLook → Type 0
AreAlike None None = Unit {0}
AreAlike (Some a) (Some b) = IsAlike a b
AreAlike o q = ⊥

abbrev pub EndAlike : Option Ending → Option Ending → Type 0
EndAlike None None = Unit {0}
EndAlike (Some a) (Some b) = (a.look ≡ b.look) × (a.text.items ≡ b.text.items)
EndAlike o q = ⊥

-- what is shown of a run is the same
pub record ShowsSame (looks others : Looks) : Type 0 where
  pub states_are : (rank : ℕ) → seen_at looks rank ≡ seen_at others rank
  pub steps_are : (row : ℕ) → AreAlike (slice_get looks.steps.items row) (slice_get others.steps.items row)
  pub ends_are : (rank : ℕ) → EndAlike (slice_get looks.ends.items rank) (slice_get others.ends.items rank)

class_same : (o q : Option StepLook) → AreAlike o q → option_and_then (λ (look : StepLook). tick_class look.mark) o ≡ option_and_then (λ (look : StepLook). tick_class look.mark) q
class_same None None a = refl
class_same None (Some l) a = absurd a
class_same (Some l) None a = absurd a
class_same (Some l) (Some m) a = ap tick_class a.mark_is

look_beside : (o q : Option StepLook) → AreAlike o q → (look : StepLook) → o ≡ Some look → (other : StepLook) × (q ≡ Some other) × IsAlike look other
look_beside None q a look e = absurd (cc)
look_beside (Some l) None a look e = absurd a
look_beside (Some l) (Some m) a look e = (m, refl, subst (λ (x : StepLook). IsAlike x m) (same_some e) a)

mark_same : (T : Run) (k : ℕ) (p : Spot) (a b : StepLook) → IsAlike a b → mark_line T k a p ∷ [] ≡ mark_line T k b p ∷ []
mark_same T k p a b s = λ i. line (codes "use") (undone_class (s.undone_is i) ++ symbol_at (codes "#tau-") (symbol_word (s.mark_is i)) p.x p.y)
    (titled (number k ∷ plain (codes " ") ∷ said (cut (step_text T k ++ s.note_is i) 400) ∷ [])) ∷ []

row_same : (T : Run) (k : ℕ) (p : Spot) (a b : StepLook) → IsAlike a b → place_line k p ∷ row_line T k a p ∷ [] ≡ place_line k p ∷ row_line T k b p ∷ []
row_same T k p a b s = λ i. place_line k p ∷ text_at (row_word (s.row_is i)) 54 (p.y + 4) (said (cut (bare_text T k ++ s.note_is i) 46) ∷ []) ∷ []

ending_same : (plan : Plan) (rank x : ℕ) (name : List ℕ) (o q : Option Ending) → EndAlike o q → ending_lines plan rank x name o ≡ ending_lines plan rank x name q
ending_same plan rank x name None None a = refl
ending_same plan rank x name None (Some e) a = absurd a
ending_same plan rank x name (Some e) None a = absurd a
ending_same plan rank x name (Some e) (Some f) a = λ i. end_lines plan rank x (a.0 i) name (a.1 i)

module _ (T : Run) (plan : Plan) (looks others : Looks) (same : ShowsSame looks others) where
  strip_lane_as : (rank : ℕ) (ls : List Line) → IsStripLane T.opening.names plan looks rank ls → IsStripLane T.opening.names plan others rank ls
  strip_lane_as rank ls a = record {
    lane = a.lane;
    at_rank = a.at_rank;
    are = a.are ∙ ap (λ seen. label_line rank (who_text T.opening.names a.lane.who) ∷ flat_map (span_lines plan rank) seen) (same.states_are rank);
  }

  tick_as : (k : ℕ) (ls : List Line) → IsTick T plan looks k ls → IsTick T plan others k ls
  tick_as k ls a =
      let row = k - plan.window.from in
      record {
        rank = a.rank;
        rank_is = a.rank_is;
        are = a.are ∙ ap (tick_lines T plan k a.rank) (class_same (slice_get looks.steps.items row) (slice_get others.steps.items row) (same.steps_are row));
      }

  pub strip_as : (ls : List Line) → AreStripLines T plan looks ls → AreStripLines T plan others ls
  strip_as ls (with_strip room a) = with_strip room (record {
    lanes = a.lanes;
    lanes_are = each_as (IsStripLane T.opening.names plan looks) (IsStripLane T.opening.names plan others) 0 (length plan.lanes) strip_lane_as a.lanes a.lanes_are;
    ticks = a.ticks;
    ticks_are = each_as (IsTick T plan looks) (IsTick T plan others) plan.window.from plan.window.to tick_as a.ticks a.ticks_are;
    are = a.are;
  })
  strip_as ls (without e) = without e

  states_at_as : (rank : ℕ) (ls : List Line) → AreStatesAt T plan looks rank ls → AreStatesAt T plan others rank ls
  states_at_as rank ls a = record {
    lane = a.lane;
    at_rank = a.at_rank;
    are = subst (λ (seen : List Seen). EachItem (IsStateAt T plan (lane_x plan rank a.lane)) seen ls) (same.states_are rank) a.are;
  }

  pub states_as : (ls : List Line) → AreStateLines T plan looks ls → AreStateLines T plan others ls
  states_as ls x = each_as (AreStatesAt T plan looks) (AreStatesAt T plan others) 0 (length plan.lanes) states_at_as ls x

  mark_as : (k : ℕ) (ls : List Line) → IsMark T plan looks.steps.items k ls → IsMark T plan others.steps.items k ls
  mark_as k ls a =
      let row = k - plan.window.from in
      let other = look_beside (slice_get looks.steps.items row) (slice_get others.steps.items row) (same.steps_are row) a.0 a.2 in
      (other.0, a.1, other.1, a.3, a.4 ∙ mark_same T k a.1 a.0 other.0 other.2)

  pub marks_as : (ls : List Line) → AreMarks T plan looks.steps.items ls → AreMarks T plan others.steps.items ls
  marks_as ls x = each_as (IsMark T plan looks.steps.items) (IsMark T plan others.steps.items) plan.window.from plan.window.to mark_as ls x

  row_as : (k : ℕ) (ls : List Line) → IsRow T plan looks.steps.items k ls → IsRow T plan others.steps.items k ls
  row_as k ls a =
      let row = k - plan.window.from in
      let other = look_beside (slice_get looks.steps.items row) (slice_get others.steps.items row) (same.steps_are row) a.0 a.2 in
      (other.0, a.1, other.1, a.3, a.4 ∙ row_same T k a.1 a.0 other.0 other.2)

  pub rows_as : (ls : List Line) → AreRows T plan looks.steps.items ls → AreRows T plan others.steps.items ls
  rows_as ls x = each_as (IsRow T plan looks.steps.items) (IsRow T plan others.steps.items) plan.window.from plan.window.to row_as ls x

  end_as : (rank : ℕ) (ls : List Line) → IsEndAt T.opening.names plan looks rank ls → IsEndAt T.opening.names plan others rank ls
  end_as rank ls a = record {
    lane = a.lane;
    at_rank = a.at_rank;
    are = a.are ∙ ending_same plan rank (lane_x plan rank a.lane) (who_text T.opening.names a.lane.who) (slice_get looks.ends.items rank) (slice_get others.ends.items rank) (same.ends_are rank);
  }

  pub ends_as : (ls : List Line) → AreEndLines T plan looks ls → AreEndLines T plan others ls
  ends_as ls a = record { lanes = a.lanes; lanes_are = each_as (IsEndAt T.opening.names plan looks) (IsEndAt T.opening.names plan others) 0 (length plan.lanes) end_as a.lanes a.lanes_are; are = a.are }
