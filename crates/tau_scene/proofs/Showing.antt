-- The looks of states.
use Rattle.std.proofs.Common.{◌≡◌, ◌⊎◌, ◌↔◌, inl, inr, ⊎_elim, ℕ, ◌+◌, Bool, true, false, IsTrue, List, [], ◌∷◌, ◌++◌, length, get_or, map, All, Option, Some, None, refl, sym, ap, ◌∙◌, subst, arith}
use Rattle.std.specs.Prelude.{Contains, slice_get, option_map}
use Rattle.std.specs.declared.alloc.Global.{Global}
use Rattle.std.specs.declared.vec.Vec.{Vec}
use Rattle.std.proofs.lemmas.List.{get_or_default, length-map}
use Rattle.std.proofs.lemmas.Option.{slice_get_within, slice_get-get_or, slice_get-map, slice_get_cases, get_or_from_slice_get}
use Rattle.tau_points.specs.declared.point.Point.{Point}
use Rattle.tau_trace.specs.Run.{Run, len}
use Rattle.tau_trace.specs.Histories.{Closes}
use Rattle.tau_trace.specs.Places.{IsLeastFrom}
use Rattle.tau_trace.specs.Points.{point_at, Leaves}
use Rattle.tau_trace.proofs.Lists.{same_some}
use Rattle.tau_past.specs.Audits.{ChecksAt}
use Rattle.tau_past.specs.Safety.{RolledBack}
use Rattle.tau_layout.specs.declared.lanes.Lane.{Lane}
use Rattle.tau_layout.specs.Plans.{Plan}
use Rattle.tau_explain.specs.Links.Marks.{IsMarked}
use Rattle.tau_explain.specs.Links.Links.{IsMade}
use Rattle.tau_explain.proofs.PushLemmas.{checks_who}
use Rattle.tau_trace.proofs.PointLemmas.{no_return}
use Rattle.std.proofs.lemmas.Bool.{cases_lt}
use Rattle.tau_cut.specs.declared.cut.Marked.{Marked}
use Rattle.tau_cut.specs.Cuts.{places_in}
use Rattle.tau_cut.proofs.KeepLemmas.{check_made}
use Rattle.tau_scene.specs.declared.timelines.states.State.{State}
use Rattle.tau_scene.specs.Timelines.States.{IsState, AreStates, AreLaneStates}
use Rattle.tau_scene.proofs.Beginnings.{stays_from}
use Rattle.tau_scene.specs.declared.looks.kinds.StateLook.TheVariants as states
use Rattle.tau_scene.specs.declared.looks.looks.Seen.{Seen}
use Rattle.tau_scene.specs.declared.causes.sources.Source.{Source}
use Rattle.tau_scene.specs.declared.causes.sources.Source.TheVariants as sources
use Rattle.tau_scene.specs.declared.causes.sources.Sourced.{Sourced}
use Rattle.tau_scene.specs.Causes.Looks.{RestsOnFallen, IsKept, IsStateLook, AreSeen, AreLaneSeen}
use Rattle.tau_scene.specs.Causes.Inner.Resting.{CarriesFallen, AreGrounds, IsSource, IsSourced, AreSourced, AreLanesSourced, IsAsked, IsTold, AsksIn, AsksInLanes, ChecksBetween}
use Rattle.tau_scene.specs.Causes.Inner.Showing.{saved_look, unsaved_look, IsShown, AreShown, AreLanesShown}
use Rattle.tau_scene.proofs.Collecting.{same_items, all_places, longer}

-- one Checkpoint was made at a point
pub checked_once : (T : Run) (q : Point) (i j : ℕ) → ChecksAt T i q → ChecksAt T j q → i ≡ j
checked_once T q i j a b = ⊎_elim
    (λ lt. absurd (no_return T q.who i j i (omega arith) lt same (inl x.0)))
    (λ le. ⊎_elim
    (λ lt. absurd (no_return T q.who j i j (omega arith) lt (sym same) (inl y.0)))
    (λ ge. omega (arith, le, ge))
    (cases_lt j i))
    (cases_lt i j) where
      x : Closes T q.who i × (q ≡ point_at T q.who i)
      x = checks_who T i q a

      y : Closes T q.who j × (q ≡ point_at T q.who j)
      y = checks_who T j q b

      same : point_at T q.who i ≡ point_at T q.who j
      same = sym x.1 ∙ y.1

module _ (T : Run) (s : State) (is : IsState T s) where
  -- a state that ends and isn't rolled back ends by a Checkpoint
  left_at : (e : ℕ) → Leaves T s.point.who e → s.point ≡ point_at T s.point.who e → ¬ RolledBack T s.point → ChecksAt T e s.point
  left_at e (inl c) at never = record { by = s.point.who; closes = c; at_point = at }
  left_at e (inr f) at never = absurd (never (record { place = e; held = tt; falls = f; at_point = at }))

  ends_by : (o : Option ℕ) (e : ℕ) → s.end ≡ o → o ≡ Some e → ¬ RolledBack T s.point → ChecksAt T e s.point
  ends_by o e end is_some never =
      let at = subst (IsLeastFrom s.begin (Leaves T s.point.who) (len T)) (end ∙ is_some) is.ends in
      left_at e at.2 (is.point_is ∙ sym (stays_from T s.point.who s.begin e at.0 (λ j ge lt. at.3 j ge lt))) never

  module _ (cut : List Marked) (points : List Point) (fallen : List Point) (kept : List Bool) (resting : List Point) (g : AreGrounds T cut points fallen kept resting) (rests : Bool) (told : IsTrue rests ↔ RestsOnFallen T s.point) where
    kept_look : (e : ℕ) (k r : Bool) → rests ≡ r → s.end ≡ Some e → (IsTrue k ↔ IsMarked kept e) → ¬ RolledBack T s.point → IsStateLook T cut s (saved_look k r)
    kept_look e true r same end marked never = (never, record { place = e; held = (g.kept_are e).1 (marked.0 refl); checks = ends_by (Some e) e end refl never })
    kept_look e false r same end marked never = by r same where
      checks : ChecksAt T e s.point
      checks = ends_by (Some e) e end refl never

      unkept : ¬ IsKept T cut s.point
      unkept m = let here : m.place ≡ e = checked_once T s.point m.place e m.checks checks in let f = marked.1 ((g.kept_are e).0 (subst (Contains (places_in cut)) here m.held)) in absurd (cc)

      by : (r : Bool) → rests ≡ r → IsStateLook T cut s (saved_look false r)
      by true same = (never, (e, checks), unkept, told.0 same)
      by false same = (never, (e, checks), unkept, λ x. let f = sym same ∙ told.1 x in cc)

    open_look : (r : Bool) → rests ≡ r → s.end ≡ None → ¬ RolledBack T s.point → IsStateLook T cut s (unsaved_look r)
    open_look true same end never = (never, end, told.0 same)
    open_look false same end never = (never, end, λ x. let f = sym same ∙ told.1 x in cc)

    pub fallen_state : Contains fallen s.point → IsStateLook T cut s states.Fallen
    fallen_state h = (g.fallen_are s.point).0 h

    pub ended_state : (e : ℕ) (k : Bool) → s.end ≡ Some e → (IsTrue k ↔ IsMarked kept e) → ¬ Contains fallen s.point → IsStateLook T cut s (saved_look k rests)
    ended_state e k end marked never = kept_look e k rests refl end marked (λ f. never ((g.fallen_are s.point).1 f))

    pub lasting_state : s.end ≡ None → ¬ Contains fallen s.point → IsStateLook T cut s (unsaved_look rests)
    lasting_state end never = open_look rests refl end (λ f. never ((g.fallen_are s.point).1 f))

-- the states of all lanes
module _ (T : Run) (plan : Plan) (cut : List Marked) (points : List Point) (fallen : List Point) (kept : List Bool) (resting : List Point) (g : AreGrounds T cut points fallen kept resting) where
  asked_for : (source : Source) → ((q : Point) → source ≡ sources.Point q → Contains points q) → IsAsked T resting source
  asked_for (sources.Point q) asks = g.resting_are q (asks q refl)
  asked_for (sources.Birth j) asks = tt
  asked_for sources.Nothing asks = tt

  module _ (t : ℕ) (v : List State) (u : List Sourced) (w : List Seen) (are : AreStates T plan.window t v) (sourced : AreSourced T v (length v) u) (shown : AreShown T fallen kept resting u (length u) w) (asks : (q : Point) → AsksIn u (length u) q → Contains points q) where
    there : (i : ℕ) (x : Seen) → slice_get w i ≡ Some x → (s : State) × (y : Sourced) × (slice_get v i ≡ Some s) × (slice_get u i ≡ Some y) × IsSourced T s y × IsShown T fallen kept resting y x
    there i x e =
        let lt = slice_get_within w i x e in ⊎_elim
        (λ y. ⊎_elim
        (λ s. (s.0, y.0, s.2, y.2, sourced.each i s.0 y.0 s.2 y.2, shown.each i y.0 x y.2 e))
        (λ s. absurd (omega (arith, s.0, lt, shown.count_is, sourced.count_is)))
        (slice_get_cases v i).1)
        (λ y. absurd (omega (arith, y.0, lt, shown.count_is)))
        (slice_get_cases u i).1

    states_same : map (λ (x : Seen). x.state) w ≡ v
    states_same = same_items (map (λ (x : Seen). x.state) w) v (length-map w (λ (x : Seen). x.state) ∙ shown.count_is ∙ sourced.count_is) (λ i a b e f.
        ⊎_elim
        (λ x.
        let h = there i x.0 x.2 in
        let left : a ≡ x.0.state = same_some (sym e ∙ slice_get-map (λ (z : Seen). z.state) w i ∙ ap (option_map (λ (z : Seen). z.state)) x.2) in
        let right : h.0 ≡ b = same_some (sym h.2 ∙ f) in
        left ∙ h.5.state_is ∙ h.4.state_is ∙ right)
        (λ x. let lt = slice_get_within v i b f in absurd (omega (arith, x.0, lt, shown.count_is, sourced.count_is)))
        (slice_get_cases w i).1)

    look_at : (i : ℕ) (x : Seen) → slice_get w i ≡ Some x → IsStateLook T cut x.state x.look
    look_at i x e =
        let h = there i x e in
        let state : IsState T h.0 = (are.only h.0 (i, slice_get_within v i h.0 h.2, get_or_from_slice_get v i h.0 h.0 h.2)).1 in
        let y_state : h.1.state ≡ h.0 = h.4.state_is in
        let asked = asked_for h.1.source (λ q f. asks q (record { at = i; below = slice_get_within u i h.1 h.3; sourced = h.1; there = h.3; asks = f })) in
        let look = h.5.look_is cut points g (subst (IsState T) (sym y_state) state) (subst (λ (z : State). IsSource T z.point h.1.source) (sym y_state) h.4.source_is) asked in
        subst (λ (z : State). IsStateLook T cut z x.look) (sym h.5.state_is) look

    pub lane_seen : AreSeen T plan cut t w
    lane_seen = record {
      states_are = subst (AreStates T plan.window t) (sym states_same) are;
      looks_are = λ i d lt. look_at i (get_or w i d) (slice_get-get_or w i d lt);
    }

  module _ (lanes : List (Vec State Global)) (sourced : List (Vec Sourced Global)) (seen : List (Vec Seen Global)) (are : AreLaneStates T plan lanes) (told : AreLanesSourced T lanes (length lanes) sourced) (shown : AreLanesShown T fallen kept resting sourced (length sourced) seen) (asks : (q : Point) → AsksInLanes sourced (length sourced) q → Contains points q) where
    at_rank : (rank : ℕ) (l : Lane) (w : Vec Seen Global) → slice_get plan.lanes rank ≡ Some l → slice_get seen rank ≡ Some w → AreSeen T plan cut l.who w.items
    at_rank rank l w e f =
        let lt = slice_get_within seen rank w f in ⊎_elim
        (λ u. ⊎_elim
        (λ v. lane_seen l.who v.0.items u.0.items w.items (are.each rank l v.0 e v.2) (told.each rank v.0 u.0 v.2 u.2) (shown.each rank u.0 w u.2 f)
        (λ q a. asks q (record { rank = rank; below = u.1; lane = u.0; there = u.2; asks = a })))
        (λ v. absurd (omega (arith, v.0, lt, shown.count_is, told.count_is)))
        (slice_get_cases lanes rank).1)
        (λ u. absurd (omega (arith, u.0, lt, shown.count_is)))
        (slice_get_cases sourced rank).1

    pub lanes_seen : AreLaneSeen T plan cut seen
    lanes_seen = record { count_is = shown.count_is ∙ told.count_is ∙ are.count_is; each = at_rank }

-- what is asked for was made
pub asked_made : (T : Run) (lanes : List (Vec State Global)) (sourced : List (Vec Sourced Global)) (from to : ℕ) (points : List Point) → AreLanesSourced T lanes (length lanes) sourced → ((q : Point) → Contains points q ↔ (AsksInLanes sourced (length sourced) q ⊎ ChecksBetween T from to q)) → All (IsMade T) points
asked_made T lanes sourced from to points told asked i d lt =
    let q = get_or points i d in
    ⊎_elim (λ a. by_lane q a) (λ c. check_made T c.place q c.checks) ((asked q).0 (i, lt, get_or_default points i q d lt)) where
      by_source : (p q : Point) (source : Source) → source ≡ sources.Point q → IsSource T p source → IsMade T q
      by_source p q source e is = (subst (IsSource T p) e is).0

      by_lane : (q : Point) → AsksInLanes sourced (length sourced) q → IsMade T q
      by_lane q a = ⊎_elim
          (λ v. ⊎_elim
          (λ s. let x = (told.each a.rank v.0 a.lane v.2 a.there).each a.asks.at s.0 a.asks.sourced s.2 a.asks.there in by_source s.0.point q a.asks.sourced.source a.asks.asks x.source_is)
          (λ s. let lt = slice_get_within a.lane.items a.asks.at a.asks.sourced a.asks.there in absurd (omega (arith, s.0, lt, (told.each a.rank v.0 a.lane v.2 a.there).count_is)))
          (slice_get_cases v.0.items a.asks.at).1)
          (λ v. absurd (omega (arith, v.0, a.below, told.count_is)))
          (slice_get_cases lanes a.rank).1

-- states with their looks, one by one
pub shown_next : (T : Run) (fallen : List Point) (kept : List Bool) (resting : List Point) (lane : List Sourced) (n : ℕ) (s : Sourced) (x : Seen) (old new : List Seen) → AreShown T fallen kept resting lane n old → new ≡ old ++ x ∷ [] → slice_get lane n ≡ Some s → IsShown T fallen kept resting s x → AreShown T fallen kept resting lane (n + 1) new
shown_next T fallen kept resting lane n s x old new h is at here = record {
  count_is = longer old new x n h.count_is is;
  each = all_places (λ i a b. IsShown T fallen kept resting a b) lane n old new s x h.count_is is at here h.each;
}

pub lanes_shown_next : (T : Run) (fallen : List Point) (kept : List Bool) (resting : List Point) (lanes : List (Vec Sourced Global)) (n : ℕ) (v : Vec Sourced Global) (w : Vec Seen Global) (old new : List (Vec Seen Global)) → AreLanesShown T fallen kept resting lanes n old → new ≡ old ++ w ∷ [] → slice_get lanes n ≡ Some v → AreShown T fallen kept resting v.items (length v.items) w.items → AreLanesShown T fallen kept resting lanes (n + 1) new
lanes_shown_next T fallen kept resting lanes n v w old new h is at here = record {
  count_is = longer old new w n h.count_is is;
  each = all_places (λ i a b. AreShown T fallen kept resting a.items (length a.items) b.items) lanes n old new v w h.count_is is at here h.each;
}
