-- A picture is markup.
use Rattle.std.proofs.Common.{◌≡◌, ℕ, zero, suc, ◌+◌, ◌-◌, ◌*◌, ◌/◌, ◌<◌, ◌&&◌, Bool, true, false, cond, List, [], ◌∷◌, ◌++◌, Option, Some, None, refl, ◌∙◌, append_assoc, arith, length}
use Rattle.std.specs.Prelude.{slice_get, nat_lt, nat_le, option_and_then, codes}
use Rattle.std.specs.List.{flat_map}
use Rattle.std.proofs.lemmas.List.Elements.{All-from_recursion}
use Rattle.tau_svg.specs.Markup.Texts.{cut, cut_inside}
use Rattle.tau_svg.specs.Markup.Lines.{plain, number, empty, Line}
use Rattle.tau_points.proofs.Membership.{all_append}
use Rattle.tau_explain.specs.declared.chains.chained.Chained.{Chained}
use Rattle.tau_tree.specs.declared.programs.Program.{Program}
use Rattle.tau_trace.specs.declared.step.Step.{Step}
use Rattle.tau_trace.specs.declared.step.Step.TheVariants.{Send, Repeat, New}
use Rattle.tau_trace.specs.Run.{Run, len}
use Rattle.tau_trace.specs.Numbering.{sent}
use Rattle.tau_value.specs.Written.{name_written}
use Rattle.tau_svg.specs.declared.shapes.window.Window.{Window}
use Rattle.tau_svg.specs.Shapes.Windows.{count}
use Rattle.tau_svg.specs.Shapes.Shapes.{begin_line, title_line, paper_line, rect_of, text_at, go, go_to}
use Rattle.tau_svg.specs.Shapes.Fixed.{style_lines, symbol_lines}
use Rattle.tau_layout.specs.Plans.{Plan, grid, lane_x, strip_x, row_y}
use Rattle.tau_scene.specs.declared.timelines.states.State.{State}
use Rattle.tau_cut.specs.declared.cut.Marked.{Marked}
use Rattle.tau_scene.specs.Words.Texts.{who_text, step_text, bare_text, state_title}
use Rattle.tau_scene.specs.declared.looks.kinds.MarkLook.{MarkLook}
use Rattle.tau_scene.specs.declared.looks.kinds.MarkLook.TheVariants as marks
use Rattle.tau_scene.specs.declared.looks.looks.Seen.{Seen}
use Rattle.tau_scene.specs.declared.looks.looks.StepLook.{StepLook}
use Rattle.tau_scene.specs.declared.looks.looks.Ending.{Ending}
use Rattle.tau_scene.specs.declared.looks.looks.Looks.{Looks}
use Rattle.tau_layout.specs.declared.paths.spots.Spot.{Spot}
use Rattle.tau_layout.specs.Paths.Guides.{guide_line, IsGuide}
use Rattle.tau_layout.specs.Paths.Paths.{receipt_path}
use Rattle.tau_layout.specs.Paths.Senders.{met_by}
use Rattle.tau_drawing.specs.Messages.Titles.{receipt_title, sent_title}
use Rattle.tau_drawing.specs.Messages.Arrows.{receipt_class, receipt_line, sent_class, sent_line, new_line}
use Rattle.tau_drawing.specs.Messages.Messages.{IsReceiptLine, receipt_leads, receipt_nowhere, IsSentLine, sent_leads, sent_met, sent_nowhere, IsNewLine, new_leads, new_nowhere, IsLineTo, IsLineOf, IsMessageLine}
use Rattle.tau_drawing.specs.Marks.Marks.{mark_line, IsMark}
use Rattle.tau_drawing.specs.Marks.Rows.{place_line, row_line, IsRow}
use Rattle.tau_drawing.specs.States.Names.{tick_class, seen_at, state_class, state_words}
use Rattle.tau_drawing.specs.States.StripLines.{class_at, span_lines, stable_span, strip_end, tick_lines, IsStripLane, IsTick, AreStripLines, with_strip, without, frame_line, place_lines, label_line}
use Rattle.tau_drawing.specs.States.StateLines.{state_top, state_foot, stable_top, state_lines, point_end, point_y, point_off, point_lines, stable_from, IsStateAt, AreStatesAt}
use Rattle.tau_drawing.specs.States.EndLines.{end_x, end_y, ending_lines, IsEndAt, AreEndLines, heading_line}
use Rattle.tau_drawing.specs.Lanes.Bands.{lanes_below, span, band_line, node_line, first_x, last_x, band_lines, bands_below}
use Rattle.tau_drawing.specs.Lanes.NameLines.{frame_line as name_frame, names_foot, named_lines, IsNamed, IsNamesLine}
use Rattle.tau_drawing.specs.Lanes.LaneLines.{wide_line, tall_line, name_line, top_name, axis_line, axis_top, axis_foot, IsLane}
use Rattle.tau_picture.specs.Headings.{is_whole, heading_lines}
use Rattle.tau_picture.specs.Chains.{FrameLines, framed, unframed, curve, no_later, link_line, LinkLines, link_drawn, link_undrawn, head_lines, AreLinkLines, RingLines, ring_drawn, ring_undrawn}
use Rattle.tau_picture.specs.Pictures.{key_lines, said_lines, AreCauseLines, IsPicture}
use Rattle.tau_picture.specs.Markup.{is_text, is_element, IsElement, IsMarkup}
use Rattle.tau_picture.specs.Laws.{PicturesAreMarkup}
use Rattle.tau_picture.proofs.Whole.{window_within, step_there}
use Rattle.tau_picture.proofs.EscapedTexts.{texts_escaped}
use Rattle.tau_picture.proofs.Elements.{Elements, each_element, item_elements, flat_elements, as_elements, cond_elements, cond_element, state_box, state_part, state_span, mark_use, row_text, end_use, end_mark, end_text, path_element, receipt_kind, receipt_way, receipt_said, sent_kind, sent_said}

-- the heading

part_text : (a b : Bool) (v : Window) → is_text (cond a [] (cond b (plain (codes ", drawn from ") ∷ number v.from ∷ plain (codes " to ") ∷ number (v.to - 1) ∷ []) (plain (codes ", none drawn") ∷ []))) ≡ true
part_text true b v = refl
part_text false true v = refl
part_text false false v = refl

left_text : (b : Bool) → is_text (cond b (plain (codes ", notes without causes") ∷ []) []) ≡ true
left_text true = refl
left_text false = refl

heading_elements : (T : Run) (v : Window) (cut : List Marked) → Elements (heading_lines T v cut)
heading_elements T v cut = (part_text (is_whole (len T) v) (nat_lt v.from v.to) v, (left_text (nat_lt 4000 (len T)), tt))

said_elements : (T : Run) (ask : Option ℕ) (cause : Option (List Chained)) → Elements (said_lines T ask cause)
said_elements T None cause = tt
said_elements T (Some k) cause = (refl, tt)

-- the bands of nodes

node_text : (b : Bool) (n : ℕ) → is_text (cond b (number n ∷ []) (plain (codes "node ") ∷ number n ∷ [])) ≡ true
node_text true n = refl
node_text false n = refl

module _ (plan : Plan) where
  band_elements : (n : ℕ) → Elements (band_lines plan n)
  band_elements n =
      let g = grid plan in
      let first = first_x plan n in
      let last = last_x plan n in
      cond_elements (nat_lt (lanes_below plan.lanes n) (lanes_below plan.lanes (n + 1))) (band_line g first last ∷ node_line g n first last ∷ []) []
      (refl, (node_text (nat_lt (span g first last) 56) n, tt)) tt

  bands_elements : (n : ℕ) → Elements (bands_below plan n)
  bands_elements zero = tt
  bands_elements (suc n) = all_append IsElement (bands_below plan n) (band_lines plan n) (bands_elements n) (band_elements n)

  -- the lines of lanes

  name_element : (x foot : ℕ) (name : List ℕ) → is_element (name_line (grid plan) x foot name) ≡ true
  name_element x foot name = cond_element (grid plan).is_wide (wide_line x (foot - 8) (cut_inside name 15)) (tall_line (x + 4) (foot - 6) (cut_inside name 12)) refl refl

  lane_elements : (T : Run) (rank : ℕ) (ls : List Line) → IsLane T plan rank ls → Elements ls
  lane_elements T rank ls a =
      let x = lane_x plan rank a.lane in
      let name = name_written T.opening.names a.lane.who in
      as_elements ls (top_name (grid plan) x name ∷ axis_line x (axis_top plan a.told.birth) (axis_foot plan a.told.end) name a.lane.node ∷ []) a.told.are (name_element x ((grid plan).top - 12) name, (refl, tt))

  -- the names of lanes between the rows

  named_elements : (T : Run) (rows rank : ℕ) (ls : List Line) → IsNamed T plan rows rank ls → Elements ls
  named_elements T rows rank ls a =
      let x = lane_x plan rank a.lane in
      let foot = names_foot (grid plan) rows in
      let name = name_written T.opening.names a.lane.who in
      as_elements ls (named_lines (grid plan) x foot name) a.are (refl, (name_element x foot name, tt))

  names_elements : (T : Run) (n : ℕ) (ls : List Line) → IsNamesLine T plan n ls → Elements ls
  names_elements T n ls x = each_element (IsNamed T plan (50 * n)) 0 (length plan.lanes) (length plan.lanes) (omega arith) (λ k l lt p. named_elements T (50 * n) k l p) ls x

  -- states, in their lanes and in the strip

  stable_elements : (x : ℕ) (s : Seen) (o : Option ℕ) → Elements (stable_from plan x s o)
  stable_elements x s None = tt
  stable_elements x s (Some k) =
      let top = stable_top plan s.state k in
      let high = state_foot plan s.state - top in
      cond_elements (nat_lt k plan.window.to) (rect_of (state_class s.look) (codes "-s") (x - 2) top 4 high empty ∷ []) [] (state_part s.look (x - 2) top 4 high, tt) tt

  point_elements : (x : ℕ) (s : State) (crowded crossed : Bool) → Elements (point_lines plan x s crowded crossed)
  point_elements x s crowded crossed =
      cond_elements ((grid plan).is_wide && nat_le (point_end s (point_off crossed)) 72) (text_at (codes "pt") (x + point_off crossed) (point_y plan s crowded) (number s.point.interval ∷ plain (codes " ") ∷ number s.point.incarnation ∷ []) ∷ []) [] (refl, tt) tt

  state_elements : (names : List (List ℕ)) (x : ℕ) (s : Seen) (crowded crossed : Bool) → Elements (state_lines plan names x s crowded crossed)
  state_elements names x s crowded crossed =
      let top = state_top plan s.state in (
        state_box s.look (x - 5) top 10 (state_foot plan s.state - top) 3 (state_title names s.state.point s.state.begin s.state.end (state_words s.look)),
        all_append IsElement (point_lines plan x s.state crowded crossed) (stable_from plan x s s.state.stable) (point_elements x s.state crowded crossed) (stable_elements x s s.state.stable),
      )

  states_elements : (T : Run) (looks : Looks) (rank : ℕ) (ls : List Line) → AreStatesAt T plan looks rank ls → Elements ls
  states_elements T looks rank ls a = item_elements (IsStateAt T plan x) of_state (seen_at looks rank) ls a.are where
    x : ℕ
    x = lane_x plan rank a.lane

    of_state : (s : Seen) (ks : List Line) → IsStateAt T plan x s ks → Elements ks
    of_state s ks b = as_elements ks (state_lines plan T.opening.names x s b.crowded b.crossed) b.are (state_elements T.opening.names x s b.crowded b.crossed)

  part_elements : (rank : ℕ) (s : Seen) (o : Option ℕ) → Elements (stable_span plan rank s o)
  part_elements rank s None = tt
  part_elements rank s (Some k) =
      let wide = strip_end plan s.state.end - strip_x plan k in
      cond_elements (nat_lt k plan.window.to) (rect_of (state_class s.look) (codes "-s") (strip_x plan k) (81 + 8 * rank) wide 3 empty ∷ []) [] (state_part s.look (strip_x plan k) (81 + 8 * rank) wide 3, tt) tt

  span_elements : (rank : ℕ) (s : Seen) → Elements (span_lines plan rank s)
  span_elements rank s =
      let begin = strip_x plan s.state.begin in
      (state_span s.look begin (80 + 8 * rank) (strip_end plan s.state.end - begin) 5, part_elements rank s s.state.stable)

  strip_lane_elements : (names : List (List ℕ)) (looks : Looks) (rank : ℕ) (ls : List Line) → IsStripLane names plan looks rank ls → Elements ls
  strip_lane_elements names looks rank ls a =
      as_elements ls (label_line rank (who_text names a.lane.who) ∷ flat_map (span_lines plan rank) (seen_at looks rank)) a.are (refl, flat_elements (span_lines plan rank) (span_elements rank) (seen_at looks rank))

  tick_of : (T : Run) (k rank : ℕ) (mark : MarkLook) → Elements (tick_lines T plan k (Some rank) (tick_class mark))
  tick_of T k rank marks.Kept = (refl, tt)
  tick_of T k rank marks.Unkept = (refl, tt)
  tick_of T k rank marks.Hold = (refl, tt)
  tick_of T k rank marks.Broken = (refl, tt)
  tick_of T k rank marks.Fall = (refl, tt)
  tick_of T k rank marks.Rollback = (refl, tt)
  tick_of T k rank marks.Trap = (refl, tt)
  tick_of T k rank marks.Fail = (refl, tt)
  tick_of T k rank mark = tt

  tick_at : (T : Run) (k : ℕ) (rank : Option ℕ) (o : Option StepLook) → Elements (tick_lines T plan k rank (option_and_then (λ (look : StepLook). tick_class look.mark) o))
  tick_at T k None o = tt
  tick_at T k (Some r) None = tt
  tick_at T k (Some r) (Some look) = tick_of T k r look.mark

  tick_elements : (T : Run) (looks : Looks) (k : ℕ) (ls : List Line) → IsTick T plan looks k ls → Elements ls
  tick_elements T looks k ls a = as_elements ls (tick_lines T plan k a.rank (class_at plan looks k)) a.are (tick_at T k a.rank (slice_get looks.steps.items (k - plan.window.from)))

  strip_elements : (T : Run) (looks : Looks) (ls : List Line) → AreStripLines T plan looks ls → Elements ls
  strip_elements T looks ls (with_strip room a) = as_elements ls (frame_line plan ∷ (a.lanes ++ a.ticks ++ place_lines plan)) a.are (
    refl,
    all_append IsElement (a.lanes ++ a.ticks) (place_lines plan)
        (all_append IsElement a.lanes a.ticks
        (each_element (IsStripLane T.opening.names plan looks) 0 (length plan.lanes) (length plan.lanes) (omega arith) (λ k l lt p. strip_lane_elements T.opening.names looks k l p) a.lanes a.lanes_are)
        (each_element (IsTick T plan looks) plan.window.from plan.window.to plan.window.to (omega arith) (λ k l lt p. tick_elements T looks k l p) a.ticks a.ticks_are))
        (refl, (refl, tt)),
  )
  strip_elements T looks ls (without e) = tt

  -- what may be kept

  kept_elements : (rank x : ℕ) (name : List ℕ) (o : Option Ending) → Elements (ending_lines plan rank x name o)
  kept_elements rank x name None = tt
  kept_elements rank x name (Some e) =
      let foot = (grid plan).foot + 11 in
      (end_use e.look x foot (cut (name ++ e.text.items) 400), (end_mark e.look (end_x plan rank) (end_y plan rank), (end_text e.look (end_x plan rank + 12) (end_y plan rank + 4) (cut (cut_inside name 15 ++ e.text.items) 33), tt)))

  end_elements : (names : List (List ℕ)) (looks : Looks) (rank : ℕ) (ls : List Line) → IsEndAt names plan looks rank ls → Elements ls
  end_elements names looks rank ls a =
      let x = lane_x plan rank a.lane in
      let name = who_text names a.lane.who in
      let o = slice_get looks.ends.items rank in
      as_elements ls (ending_lines plan rank x name o) a.are (kept_elements rank x name o)

  ends_elements : (T : Run) (looks : Looks) (ls : List Line) → AreEndLines T plan looks ls → Elements ls
  ends_elements T looks ls a = as_elements ls (heading_line plan ∷ a.lanes) a.are (refl, each_element (IsEndAt T.opening.names plan looks) 0 (length plan.lanes) (length plan.lanes) (omega arith) (λ k l lt p. end_elements T.opening.names looks k l p) a.lanes a.lanes_are)

  -- guides, marks and rows

  guide_elements : (T : Run) (k : ℕ) (ls : List Line) → IsGuide T plan k ls → Elements ls
  guide_elements T k ls a = as_elements ls (guide_line a.0 ∷ []) a.2 (refl, tt)

  mark_elements : (T : Run) (looks : List StepLook) (k : ℕ) (ls : List Line) → IsMark T plan looks k ls → Elements ls
  mark_elements T looks k ls a =
      let look = a.0 in
      as_elements ls (mark_line T k look a.1 ∷ []) a.4 (mark_use look.undone look.mark a.1.x a.1.y k (cut (step_text T k ++ look.note.items) 400), tt)

  row_elements : (T : Run) (looks : List StepLook) (k : ℕ) (ls : List Line) → IsRow T plan looks k ls → Elements ls
  row_elements T looks k ls a =
      let look = a.0 in
      as_elements ls (place_line k a.1 ∷ row_line T k look a.1 ∷ []) a.4 (refl, (row_text look.row 54 (a.1.y + 4) (cut (bare_text T k ++ look.note.items) 46), tt))

  -- messages

  receipt_elements : (P : Program) (T : Run) (k : ℕ) (s : Step) (m : ℕ) (ls : List Line) → IsReceiptLine P T plan k s m ls → Elements ls
  receipt_elements P T k s m ls (receipt_leads {t = t} {x = x} {v = v} source i b value is e) =
      let names = T.opening.names in
      let g = grid plan in
      let p : Spot = record { x = x; y = row_y plan k } in
      as_elements ls (receipt_line names g k s m t v source p ∷ []) e
      (path_element (receipt_class k s source) (receipt_path g.is_wide g.top s m source p) (receipt_title names k s m t v source) (receipt_kind k s source) (receipt_way g.is_wide g.top s m source p) (receipt_said names k s m t v source), tt)
  receipt_elements P T k s m ls (receipt_nowhere none e) = as_elements ls [] e tt

  sent_elements : (P : Program) (T : Run) (k : ℕ) (s : Step) (m : ℕ) (ls : List Line) → IsSentLine P T plan k s m ls → Elements ls
  sent_elements P T k s m ls (sent_leads {t = t} {v = v} {flies = f} {p = p} n r h g i e) =
      let names = T.opening.names in
      as_elements ls (sent_line names k s m t v f p ∷ []) e
      (path_element (plain (sent_class f) ∷ []) (go_to (codes "M") p.x p.y ++ go (codes "H") (p.x + 16)) (sent_title names k s m t v f) (sent_kind f) refl (sent_said names k s m t v f), tt)
  sent_elements P T k s m ls (sent_met d e) = as_elements ls [] e tt
  sent_elements P T k s m ls (sent_nowhere none e) = as_elements ls [] e tt

  new_elements : (T : Run) (k t : ℕ) (ls : List Line) → IsNewLine T plan k t ls → Elements ls
  new_elements T k t ls (new_leads {u = u} {x = x} {p = p} n h i e) = as_elements ls (new_line T.opening.names k t u p x ∷ []) e (refl, tt)
  new_elements T k t ls (new_nowhere n none e) = as_elements ls [] e tt

  to_elements : (P : Program) (T : Run) (k : ℕ) (s : Step) (o : Option ℕ) (ls : List Line) → IsLineTo P T plan k s o ls → Elements ls
  to_elements P T k s None ls e = as_elements ls [] e tt
  to_elements P T k s (Some m) ls r = receipt_elements P T k s m ls r

  message_elements : (P : Program) (T : Run) (k : ℕ) (s : Step) (ls : List Line) → IsLineOf P T plan k s ls → Elements ls
  message_elements P T k (Send t u v) ls l = sent_elements P T k (Send t u v) (sent T k) ls l
  message_elements P T k (Repeat m) ls l = sent_elements P T k (Repeat m) (sent T k) ls l
  message_elements P T k (New t b n v) ls l = new_elements T k t ls l
  message_elements P T k s ls l = to_elements P T k s (met_by s) ls l

  -- the chain

  frame_elements : (looks : Looks) (c : Chained) (ls : List Line) → FrameLines plan looks c ls → Elements ls
  frame_elements looks c ls (framed a) = (refl, tt)
  frame_elements looks c ls (unframed none) = tt

  link_element : (x1 y1 x2 y2 : ℕ) → is_element (link_line x1 y1 x2 y2) ≡ true
  link_element x1 y1 x2 y2 = cond_element (nat_lt x1 x2) (curve (x1 + 10) y1 (x2 - 12) y2) (curve (x1 - 10) y1 (x2 + 12) y2) refl refl

  link_elements : (T : Run) (looks : Looks) (c : Chained) (ls : List Line) → LinkLines T plan looks c ls → Elements ls
  link_elements T looks c ls (link_drawn {j = j} {x = x} {spot = p} {s = s} a) = (link_element p.x p.y x (row_y plan (no_later j s.end)), tt)
  link_elements T looks c ls (link_undrawn none) = tt

  head_elements : (ls : List Line) → Elements (head_lines ls)
  head_elements [] = tt
  head_elements (l ∷ ls) = (refl, tt)

  links_elements : (T : Run) (looks : Looks) (chain : List Chained) (ls : List Line) → AreLinkLines T plan looks chain ls → Elements ls
  links_elements T looks chain ls a = as_elements ls (a.links ++ head_lines a.links) a.are
      (all_append IsElement a.links (head_lines a.links) (item_elements (LinkLines T plan looks) (link_elements T looks) chain a.links a.links_are) (head_elements a.links))

  ring_elements : (T : Run) (k : ℕ) (ls : List Line) → RingLines T plan k ls → Elements ls
  ring_elements T k ls (ring_drawn p d a) = (refl, tt)
  ring_elements T k ls (ring_undrawn none) = tt

  chain_elements : (T : Run) (looks : Looks) (ask : Option ℕ) (cause : Option (List Chained)) (ls : List Line) → AreCauseLines T plan looks ask cause ls → Elements ls
  chain_elements T looks None cause ls e = as_elements ls [] e tt
  chain_elements T looks (Some k) None ls e = as_elements ls [] e tt
  chain_elements T looks (Some k) (Some chain) ls a = as_elements ls (a.frames ++ (a.links ++ a.ring)) a.is
      (all_append IsElement a.frames (a.links ++ a.ring) (item_elements (FrameLines plan looks) (frame_elements looks) chain a.frames a.frames_are)
      (all_append IsElement a.links a.ring (links_elements T looks chain a.links a.links_are) (ring_elements T k a.ring a.ring_is)))

-- the whole

regroup : (b t p : Line) (s y h a st n l g v m k w c r e z : List Line)
    → (b ∷ t ∷ (s ++ (y ++ p ∷ []))) ++ (h ++ (a ++ (st ++ (n ++ (l ++ (g ++ (v ++ (m ++ (k ++ (w ++ (c ++ (r ++ (e ++ z)))))))))))))
    ≡ b ∷ t ∷ (s ++ (y ++ ((p ∷ (h ++ (a ++ (st ++ (n ++ (l ++ (g ++ (v ++ (m ++ (k ++ (w ++ (c ++ (r ++ e))))))))))))) ++ z)))
regroup b t p s y h a st n l g v m k w c r e z = simp append_assoc

module _ (P : Program) (T : Run) (from to : ℕ) (ask : Option ℕ) (lines : List Line) (a : IsPicture P T from to ask lines) where
  abbrev body : List Line
  body = paper_line (grid a.plan).width (grid a.plan).height
      ∷ (heading_lines T a.plan.window a.cut ++ (said_lines T ask a.cause ++ (a.strip ++ (a.nodes ++ (a.lanes ++ (a.guides ++ (a.states ++ (a.messages ++ (a.marks ++ (a.names ++ (a.chain ++ (a.rows ++ a.ends))))))))))))

  step_elements : (k : ℕ) (ls : List Line) → k < a.plan.window.to → IsMessageLine P T a.plan k ls → Elements ls
  step_elements k ls lt l =
      let s = step_there T k (omega (arith, lt, window_within T from to a.plan a.is_plan)) in
      message_elements a.plan P T k s.0 ls (l s.0 s.1)

  parts : Elements (heading_lines T a.plan.window a.cut ++ (said_lines T ask a.cause ++ (a.strip ++ (a.nodes ++ (a.lanes ++ (a.guides ++ (a.states ++ (a.messages ++ (a.marks ++ (a.names ++ (a.chain ++ (a.rows ++ a.ends))))))))))))
  parts =
      let v = a.plan.window in
      let n = length a.plan.lanes in
      let looks = a.looks.steps.items in
      let r = all_append IsElement a.rows a.ends (each_element (IsRow T a.plan looks) v.from v.to v.to (omega arith) (λ k l lt p. row_elements a.plan T looks k l p) a.rows a.rows_are) (ends_elements a.plan T a.looks a.ends a.ends_are) in
      let c = all_append IsElement a.chain (a.rows ++ a.ends) (chain_elements a.plan T a.looks ask a.cause a.chain a.chain_is) r in
      let w = all_append IsElement a.names (a.chain ++ (a.rows ++ a.ends)) (each_element (IsNamesLine T a.plan) 1 (count v / 50 + 1) (count v / 50 + 1) (omega arith) (λ k l lt p. names_elements a.plan T k l p) a.names a.names_are) c in
      let m = all_append IsElement a.marks (a.names ++ (a.chain ++ (a.rows ++ a.ends))) (each_element (IsMark T a.plan looks) v.from v.to v.to (omega arith) (λ k l lt p. mark_elements a.plan T looks k l p) a.marks a.marks_are) w in
      let e = all_append IsElement a.messages (a.marks ++ (a.names ++ (a.chain ++ (a.rows ++ a.ends)))) (each_element (IsMessageLine P T a.plan) v.from v.to v.to (omega arith) step_elements a.messages a.messages_are) m in
      let s = all_append IsElement a.states (a.messages ++ (a.marks ++ (a.names ++ (a.chain ++ (a.rows ++ a.ends))))) (each_element (AreStatesAt T a.plan a.looks) 0 n n (omega arith) (λ k l lt p. states_elements a.plan T a.looks k l p) a.states a.states_are) e in
      let g = all_append IsElement a.guides (a.states ++ (a.messages ++ (a.marks ++ (a.names ++ (a.chain ++ (a.rows ++ a.ends)))))) (each_element (IsGuide T a.plan) v.from v.to v.to (omega arith) (λ k l lt p. guide_elements a.plan T k l p) a.guides a.guides_are) s in
      let l = all_append IsElement a.lanes (a.guides ++ (a.states ++ (a.messages ++ (a.marks ++ (a.names ++ (a.chain ++ (a.rows ++ a.ends))))))) (each_element (IsLane T a.plan) 0 n n (omega arith) (λ k l lt p. lane_elements a.plan T k l p) a.lanes a.lanes_are) g in
      let b = all_append IsElement a.nodes (a.lanes ++ (a.guides ++ (a.states ++ (a.messages ++ (a.marks ++ (a.names ++ (a.chain ++ (a.rows ++ a.ends)))))))) (as_elements a.nodes (bands_below a.plan T.opening.nodes) a.nodes_are (bands_elements a.plan T.opening.nodes)) l in
      let t = all_append IsElement a.strip (a.nodes ++ (a.lanes ++ (a.guides ++ (a.states ++ (a.messages ++ (a.marks ++ (a.names ++ (a.chain ++ (a.rows ++ a.ends))))))))) (strip_elements a.plan T a.looks a.strip a.strip_is) b in
      let d = all_append IsElement (said_lines T ask a.cause) (a.strip ++ (a.nodes ++ (a.lanes ++ (a.guides ++ (a.states ++ (a.messages ++ (a.marks ++ (a.names ++ (a.chain ++ (a.rows ++ a.ends)))))))))) (said_elements T ask a.cause) t in
      all_append IsElement (heading_lines T a.plan.window a.cut) (said_lines T ask a.cause ++ (a.strip ++ (a.nodes ++ (a.lanes ++ (a.guides ++ (a.states ++ (a.messages ++ (a.marks ++ (a.names ++ (a.chain ++ (a.rows ++ a.ends))))))))))) (heading_elements T a.plan.window a.cut) d

  markup : IsMarkup lines
  markup = record {
    width = (grid a.plan).width;
    height = (grid a.plan).height;
    steps = len T;
    key = (grid a.plan).key;
    body = body;
    elements = All-from_recursion IsElement body (refl, parts);
    is = a.is ∙ regroup (begin_line (grid a.plan).width (grid a.plan).height) (title_line (len T)) (paper_line (grid a.plan).width (grid a.plan).height) style_lines symbol_lines (heading_lines T a.plan.window a.cut) (said_lines T ask a.cause)
        a.strip a.nodes a.lanes a.guides a.states a.messages a.marks a.names a.chain a.rows a.ends (key_lines a.plan);
  }

pub pictures_are_markup : PicturesAreMarkup
pictures_are_markup = record { lines_are = markup; texts_are = texts_escaped }
