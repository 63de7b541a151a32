-- Arrows join the spots of senders and receivers.
use Rattle.std.proofs.Common.{◌≡◌, ◌⊎◌, inl, inr, ⊎_elim, ℕ, ◌+◌, ◌-◌, Bool, true, false, not, List, [], ◌∷◌, ◌++◌, Some, None, refl, sym, ◌∙◌, subst, append_assoc}
use Rattle.std.specs.Prelude.{if◌then◌else◌, Contains, codes}
use Rattle.tau_svg.specs.Markup.Lines.{Piece, plain, Line}
use Rattle.tau_points.proofs.Membership.{Contains-none, Contains-cons_cases}
use Rattle.tau_tree.specs.declared.programs.Program.{Program}
use Rattle.tau_trace.specs.declared.step.Step.{Step}
use Rattle.tau_trace.specs.declared.step.Step.TheVariants.{Lose, Send, Repeat, New}
use Rattle.tau_trace.specs.Run.{Run, step_at}
use Rattle.tau_trace.specs.Known.{IsSound, WellFormed}
use Rattle.tau_trace.specs.Numbering.{sent}
use Rattle.tau_trace.proofs.Lists.{same_some}
use Rattle.tau_trace.proofs.Once.{origin_is_one, origin_acts}
use Rattle.tau_svg.specs.declared.shapes.window.Window.{Window}
use Rattle.tau_svg.specs.Shapes.Shapes.{go, go_to, beside}
use Rattle.tau_svg.specs.Shapes.Windows.{IsDrawn}
use Rattle.tau_layout.specs.Lanes.{StandsIn, AreLanes}
use Rattle.tau_layout.specs.Plans.{Plan, IsPlan, grid, row_y, HasX}
use Rattle.tau_layout.proofs.LaneLemmas.{one_lane}
use Rattle.tau_scene.proofs.Beginnings.{acting}
use Rattle.tau_layout.specs.declared.paths.spots.Spot.{Spot}
use Rattle.tau_layout.specs.declared.paths.sources.Source.{Source}
use Rattle.tau_layout.specs.declared.paths.sources.Source.TheVariants.{Post, Earlier, Drawn}
use Rattle.tau_layout.specs.Paths.Senders.{met_by}
use Rattle.tau_layout.specs.Paths.Spots.{StandsBeside, IsSpotX, in_lane, IsSpot, IsSource}
use Rattle.tau_layout.specs.Paths.Paths.{offset, gap, curve, line_end, way_end, receipt_path}
use Rattle.tau_layout.proofs.Once.{x_once, spot_once}
use Rattle.tau_drawing.specs.Messages.Titles.{receipt_title, sent_title, new_title}
use Rattle.tau_drawing.specs.Messages.Arrows.{is_long, receipt_class, receipt_line, sent_class, sent_line, new_line}
use Rattle.tau_drawing.specs.Messages.Messages.{IsReceiptLine, receipt_leads, receipt_nowhere, IsSentLine, sent_leads, sent_met, sent_nowhere, IsNewLine, new_leads, new_nowhere, IsLineOf, IsLineTo, IsMessageLine}
use Rattle.tau_picture.specs.Laws.{Leads, begins, across, down, curved, BeginsAt, EndsAt, IsArrow, IsOtherKind, flies, goes_out, creates, IsOtherLine, ArrowsJoin}
use Rattle.tau_picture.proofs.Whole.{own_plan}

-- how far across an arrow ends
abbrev end_x : Step → Bool → ℕ → ℕ → ℕ
end_x (Lose n) right at x = at
end_x s right at x = beside right x 6

leads_as : (from : Spot) (way other : List Piece) (to : Spot) → way ≡ other → Leads from way to → Leads from other to
leads_as from way other to e l = subst (λ (w : List Piece). Leads from w to) e l

-- a line that comes down ends in the row of the step
end_leads : (from : Spot) (way : List Piece) (y : ℕ) (s : Step) (right : Bool) (at : ℕ) (p : Spot) → Leads from way (record { x = at; y = y }) → Leads from (way ++ line_end s right at p) (record { x = end_x s right at p.x; y = p.y })
end_leads from way y (Lose n) right at p l = down p.y l
end_leads from way y s right at p l =
    let fall = go (codes "V") (p.y - 5) in
    let bend = curve at p.y (beside (not right) at 3) p.y in
    let run = go (codes "H") (beside right p.x 6) in
    leads_as from (((way ++ fall) ++ bend) ++ run) (way ++ (fall ++ (bend ++ run))) (record { x = beside right p.x 6; y = p.y })
    (append_assoc (way ++ fall) bend run ∙ append_assoc way fall (bend ++ run))
    (across (beside right p.x 6) (curved at p.y (beside (not right) at 3) p.y (down (p.y - 5) l)))

-- where the arrow from a source begins, and where it ends
abbrev source_at : Plan → ℕ → Step → ℕ → ℕ → Source → Spot
source_at plan k s m x Post = record { x = x - 24; y = row_y plan k }
source_at plan k s m x (Earlier o) = record { x = x - offset (grid plan).is_wide s m; y = (grid plan).top - 12 }
source_at plan k s m x (Drawn q) = q.spot

abbrev target_x : Plan → Step → ℕ → ℕ → Source → ℕ
target_x plan s m x Post = x - gap s
target_x plan s m x (Earlier o) = end_x s false (x - offset (grid plan).is_wide s m) x
target_x plan s m x (Drawn q) = end_x s q.right (beside q.right x (offset (grid plan).is_wide s m)) x

module _ (plan : Plan) (k : ℕ) (s : Step) (m x : ℕ) where
  receipt_leads_on : (source : Source) → Leads (source_at plan k s m x source) (receipt_path (grid plan).is_wide (grid plan).top s m source (record { x = x; y = row_y plan k })) (record { x = target_x plan s m x source; y = row_y plan k })
  receipt_leads_on Post = across (x - gap s) begins
  receipt_leads_on (Earlier o) =
      let at = x - offset (grid plan).is_wide s m in
      let top = (grid plan).top - 12 in
      end_leads (record { x = at; y = top }) (go_to (codes "M") at top) top s false at (record { x = x; y = row_y plan k }) begins
  receipt_leads_on (Drawn q) =
      let at = beside q.right x (offset (grid plan).is_wide s m) in
      let p : Spot = record { x = x; y = row_y plan k } in
      let move = go_to (codes "M") q.spot.x q.spot.y in
      let run = go (codes "H") (way_end q at) in
      let bend = curve at q.spot.y at (q.spot.y + 5) in
      leads_as q.spot (((move ++ run) ++ bend) ++ line_end s q.right at p) (move ++ (run ++ (bend ++ line_end s q.right at p))) (record { x = end_x s q.right at x; y = row_y plan k })
      (append_assoc (move ++ run) bend (line_end s q.right at p) ∙ append_assoc move run (bend ++ line_end s q.right at p))
      (end_leads q.spot ((move ++ run) ++ bend) (q.spot.y + 5) s q.right at p (curved at q.spot.y at (q.spot.y + 5) (across (way_end q at) begins)))

module _ (T : Run) (sound : IsSound T.opening) (plan : Plan) (lanes : AreLanes T plan.window plan.lanes) where
  begins_at : (k : ℕ) (s : Step) (m t x : ℕ) (source : Source) → IsSource T plan m t source → BeginsAt T plan k m x (source_at plan k s m x source)
  begins_at k s m t x Post none = record { sent = λ j by q o d at. absurd (none j by o); posted = λ no. (refl, refl); earlier = λ j by o out. absurd (none j by o) }
  begins_at k s m t x (Earlier e) is = record {
    sent = λ j by q o d at. absurd (is.1 (subst (IsDrawn plan.window) (origin_is_one T j e.place by e.who m o is.0).0 d));
    posted = λ no. absurd (no e.place e.who is.0);
    earlier = λ j by o out. refl;
  }
  begins_at k s m t x (Drawn r) is = record {
    sent = λ j by q o d at.
        let same = origin_is_one T r.origin.place j r.origin.who by m is.origin o in
        let step = acting T by j (origin_acts T j by m o) in
        spot_once T sound plan lanes j step.0 r.spot q step.1 (subst (λ (n : ℕ). IsSpot T plan n r.spot) same.0 is.spot) at;
    posted = λ no. absurd (no r.origin.place r.origin.who is.origin);
    earlier = λ j by o out. absurd (out (subst (IsDrawn plan.window) (origin_is_one T r.origin.place j r.origin.who by m is.origin o).0 is.drawn));
  }

  -- a Lose stands where its arrow ends
  lost : (m t x : ℕ) (source : Source) → IsSource T plan m t source → StandsBeside T plan (Lose m) t x (target_x plan (Lose m) m x source)
  lost m t x Post none = (false, (λ e. absurd (cc), λ c. absurd (none c.place c.sender c.origin)), refl)
  lost m t x (Earlier e) is = (false, (λ f. absurd (cc), λ c. absurd (is.1 (subst (IsDrawn plan.window) (origin_is_one T c.place e.place c.sender e.who m c.origin is.0).0 c.drawn))), refl)
  lost m t x (Drawn r) is = (r.right, is.right, refl)

  ends_lost : (k m t x : ℕ) (source : Source) → step_at T k ≡ Some (Lose m) → StandsIn T k t → HasX plan t x → IsSource T plan m t source → IsSpot T plan k (record { x = target_x plan (Lose m) m x source; y = row_y plan k })
  ends_lost k m t x source at h a is = λ s e. (subst (λ (z : Step). IsSpotX T plan z k (target_x plan (Lose m) m x source)) (same_some (sym at ∙ e)) (in_lane h a (lost m t x source is)), refl)

  side : (right : Bool) (x : ℕ) → (beside right x 6 ≡ x + 6) ⊎ (beside right x 6 ≡ x - 6)
  side true x = inl refl
  side false x = inr refl

  ends_at : (k : ℕ) (s : Step) (m t x : ℕ) (source : Source) → step_at T k ≡ Some s → met_by s ≡ Some m → StandsIn T k t → HasX plan t x → IsSource T plan m t source → EndsAt T plan k s x (record { x = target_x plan s m x source; y = row_y plan k })
  ends_at k (Lose n) m t x source at e h a is =
      let same : n ≡ m = same_some e in
      subst (λ (z : ℕ). IsSpot T plan k (record { x = target_x plan (Lose n) z x source; y = row_y plan k })) same
      (ends_lost k n t x source at h a (subst (λ (z : ℕ). IsSource T plan z t source) (sym same) is))
  ends_at k s m t x Post at e h a is = (inr refl, refl)
  ends_at k s m t x (Earlier o) at e h a is = (inr refl, refl)
  ends_at k s m t x (Drawn q) at e h a is = (side q.right x, refl)

module _ (P : Program) (T : Run) (plan : Plan) (k : ℕ) where
  -- the line of a step that receives or loses a message
  receipt_of : (s : Step) (m : ℕ) (ls : List Line) → IsLineOf P T plan k s ls → met_by s ≡ Some m → IsReceiptLine P T plan k s m ls
  receipt_of (Send t u v) m ls l e = absurd (cc)
  receipt_of (Repeat n) m ls l e = absurd (cc)
  receipt_of (New t b n v) m ls l e = absurd (cc)
  receipt_of s m ls l e = subst (λ o. IsLineTo P T plan k s o ls) e l

  arrow : IsSound T.opening → AreLanes T plan.window plan.lanes → (s : Step) (m t x : ℕ) (ls : List Line) → step_at T k ≡ Some s → met_by s ≡ Some m → StandsIn T k t → HasX plan t x → IsReceiptLine P T plan k s m ls → (line : Line) × (ls ≡ line ∷ []) × IsArrow T plan k s m x line
  arrow sound lanes s m t x ls at e h a (receipt_nowhere none f) = absurd (none t x h a)
  arrow sound lanes s m t x ls at e h a (receipt_leads {t = u} {x = z} {v = v} source i b value is f) =
      let line = receipt_line T.opening.names (grid plan) k s m u v source (record { x = z; y = row_y plan k }) in
      let who : u ≡ t = one_lane T k u t i h in
      let middle : z ≡ x = x_once T sound plan lanes t z x (subst (λ (w : ℕ). HasX plan w z) who b) a in
      let told : IsArrow T plan k s m z line = record {
        from = source_at plan k s m z source;
        to = record { x = target_x plan s m z source; y = row_y plan k };
        begins_at = begins_at T sound plan lanes k s m u z source is;
        ends_at = ends_at T sound plan lanes k s m u z source at e i b is;
        kind = receipt_class k s source;
        kind_is = (if is_long k source then plain (codes " long") ∷ [] else [], refl);
        way = receipt_path (grid plan).is_wide (grid plan).top s m source (record { x = z; y = row_y plan k });
        title = receipt_title T.opening.names k s m u v source;
        leads = receipt_leads_on plan k s m z source;
        is = refl;
      } in
      (line, f, subst (λ (c : ℕ). IsArrow T plan k s m c line) middle told)

one_arrow : (P : Program) (T : Run) (v : Window) (plan : Plan) → WellFormed T → IsPlan T v plan → (k : ℕ) (s : Step) (m t x : ℕ) (lines : List Line)
    → IsMessageLine P T plan k lines → step_at T k ≡ Some s → met_by s ≡ Some m → StandsIn T k t → HasX plan t x → (line : Line) × (lines ≡ line ∷ []) × IsArrow T plan k s m x line
one_arrow P T v plan w is k s m t x lines l at e h a =
    let lanes = (own_plan T v plan is).lanes_are in
    arrow P T plan k w.opening lanes s m t x lines at e h a (receipt_of P T plan k s m lines (l s at) e)

-- the lines of other steps

in_none : (lines : List Line) (line : Line) → lines ≡ [] → ¬ Contains lines line
in_none lines line e c = Contains-none line (subst (λ (ls : List Line). Contains ls line) e c)

only : (lines : List Line) (one line : Line) → lines ≡ one ∷ [] → Contains lines line → IsOtherLine one → IsOtherLine line
only lines one line e c o = ⊎_elim
    (λ f. subst IsOtherLine (sym f) o)
    (λ n. absurd (Contains-none line n))
    (Contains-cons_cases one [] line (subst (λ (ls : List Line). Contains ls line) e c))

kind_sent : (flies : Bool) → IsOtherKind (plain (sent_class flies) ∷ [])
kind_sent true = flies
kind_sent false = goes_out

module _ (P : Program) (T : Run) (plan : Plan) (k : ℕ) where
  sent_other : (s : Step) (m : ℕ) (ls : List Line) → IsSentLine P T plan k s m ls → (line : Line) → Contains ls line → IsOtherLine line
  sent_other s m ls (sent_leads {t = t} {v = v} {flies = f} {p = p} n r h g i e) line c =
      only ls (sent_line T.opening.names k s m t v f p) line e c (record { kind = plain (sent_class f) ∷ []; kind_is = kind_sent f; way = go_to (codes "M") p.x p.y ++ go (codes "H") (p.x + 16); title = sent_title T.opening.names k s m t v f; is = refl })
  sent_other s m ls (sent_met d e) line c = absurd (in_none ls line e c)
  sent_other s m ls (sent_nowhere none e) line c = absurd (in_none ls line e c)

  new_other : (t : ℕ) (ls : List Line) → IsNewLine T plan k t ls → (line : Line) → Contains ls line → IsOtherLine line
  new_other t ls (new_leads {u = u} {x = x} {p = p} n h i e) line c =
      only ls (new_line T.opening.names k t u p x) line e c (record { kind = plain (codes "m m-new") ∷ []; kind_is = creates; way = go_to (codes "M") p.x p.y ++ (go (codes "H") x ++ go (codes "V") (p.y + 8)); title = new_title T.opening.names k t u; is = refl })
  new_other t ls (new_nowhere n none e) line c = absurd (in_none ls line e c)

  other : (s : Step) (ls : List Line) → IsLineOf P T plan k s ls → met_by s ≡ None → (line : Line) → Contains ls line → IsOtherLine line
  other (Send t u v) ls l e line c = sent_other (Send t u v) (sent T k) ls l line c
  other (Repeat m) ls l e line c = sent_other (Repeat m) (sent T k) ls l line c
  other (New t b n v) ls l e line c = new_other t ls l line c
  other s ls l e line c = absurd (in_none ls line (subst (λ o. IsLineTo P T plan k s o ls) e l) c)

pub arrows_join : ArrowsJoin
arrows_join = record { one_arrow = one_arrow; others = λ P T plan k s lines l at none line c. other P T plan k s lines (l s at) none line c }
