-- What tells whether a point of a state's past is rolled back.
use Rattle.std.proofs.Common.{Bool, true, false, not, All, List, ◌++◌, ◌∷◌, [], length, get_or, ◌+◌, ◌≡◌, ◌⊎◌, ◌↔◌, inl, inr, ⊎_elim, ℕ, suc, ◌<◌, ◌≤◌, IsTrue, Some, None, refl, sym, ap, ◌∙◌, subst, arith}
use Rattle.std.specs.Prelude.{Contains, slice_get}
use Rattle.std.specs.declared.alloc.Global.{Global}
use Rattle.std.specs.declared.vec.Vec.{Vec}
use Rattle.std.proofs.lemmas.List.{get_or_default}
use Rattle.std.proofs.lemmas.Option.{slice_get_within, slice_get_cases}
use Rattle.tau_points.specs.declared.point.Point.{Point}
use Rattle.tau_points.proofs.Membership.{Contains-none, Contains-head}
use Rattle.tau_trace.specs.declared.step.Step.TheVariants.{New}
use Rattle.tau_trace.specs.Run.{Run, len}
use Rattle.tau_trace.specs.Known.{WellFormed}
use Rattle.tau_trace.specs.Numbering.{born, IsNew}
use Rattle.tau_trace.specs.Points.{point_at, IsOpeningPoint}
use Rattle.tau_trace.proofs.Agreement.{born-grows}
use Rattle.tau_trace.proofs.Lists.{same_some}
use Rattle.tau_trace.proofs.Once.{new_once, new-rises}
use Rattle.tau_trace.proofs.Quiet.{acts}
use Rattle.tau_past.specs.Carried.{Carried, TakesBy, by_set, by_new, first_point}
use Rattle.tau_past.specs.Pasts.{Link, takes, closing, ClosesAt, checkpoint, opening, Everywhere}
use Rattle.tau_past.specs.Tables.{TakesAt, IsBirth, ClosesBefore}
use Rattle.tau_past.specs.Tables as tables
use Rattle.tau_explain.specs.Links.Links.{IsMade, Makes}
use Rattle.tau_explain.specs.Links.Links as links
use Rattle.tau_explain.proofs.PushLemmas.{taker_makes}
use Rattle.tau_cut.proofs.KeepLemmas.{check_made}
use Rattle.tau_scene.specs.declared.timelines.states.State.{State}
use Rattle.tau_layout.specs.Plans.{Plan}
use Rattle.tau_scene.specs.Timelines.States.{AreLaneStates, Begins, opens, created, leaves, IsState}
use Rattle.tau_scene.proofs.Beginnings.{leaves_acts, acts_known, acts_within}
use Rattle.tau_scene.specs.declared.causes.sources.Source.TheVariants as sources
use Rattle.tau_scene.specs.Causes.Looks.{RestsOnFallen}
use Rattle.tau_scene.specs.Causes.Inner.Resting.{CarriesFallen, IsSource, IsSourced, AreSourced, AreLanesSourced}
use Rattle.tau_scene.specs.declared.causes.sources.Sourced.{Sourced}
use Rattle.tau_scene.proofs.Collecting.{all_places, longer}
use Rattle.tau_past.specs.Heard.{IsCausallyClosed}
use Rattle.tau_past.proofs.HeardLemmas.{carried_touched}
use Rattle.tau_explain.proofs.ChainLemmas.{stood_touched}
use Rattle.tau_scene.proofs.Pasts.{fallen_made, rest_cases, rest_on, opening_rests_not}

-- the transactor of a state exists
pub state_born : (T : Run) (w : WellFormed T) (s : State) → IsState T s → s.point.who < born T (len T)
state_born T w s is = within s.begin is.begins where
  within : (b : ℕ) → Begins T s.point.who b → s.point.who < born T (len T)
  within b (opens lt) = omega (arith, lt)
  within b (created {j = j} {by = maker} n) = omega (arith, n.made, new-rises T j maker s.point.who n, born-grows T (suc j) (len T) (omega (arith, slice_get_within T.steps j (New maker n.behaviour n.node n.state) n.stands)))
  within b (leaves {j = j} x e) =
      let a = leaves_acts T s.point.who j x in
      omega (arith, acts_known T w s.point.who j a, born-grows T j (len T) (omega (arith, acts_within T s.point.who j a)))

module _ (T : Run) (p : Point) (idle : ¬ IsMade T p) where
  -- what a point at which no step was made leads to
  by_taking : (j : ℕ) (q : Point) → TakesBy T j p q → (u by : ℕ) × IsNew T j by u × (p ≡ first_point u) × Carried T j q
  by_taking j q (by_set {t = t} d e c ne) =
      let who : p.who ≡ t = ap (λ x. x.who) e in
      absurd (idle (record { place = j; acts = acts T p.who j d.step d.stands (d.by ∙ ap (λ u. Some u) (sym who)); at_point = e ∙ ap (λ u. point_at T u j) (sym who) }))
  by_taking j q (by_new {by = by} {u = u} n e c ne) = (u, by, n, e, c)

  abbrev Closing : Point → Type 0
  Closing q = ClosesBefore T p q

  abbrev Born : Point → Type 0
  Born q = (j : ℕ) × (by : ℕ) × IsNew T j by p.who × (p ≡ first_point p.who) × Carried T j q

  leads_to : (q : Point) → Link T Everywhere p q → Closing q ⊎ Born q
  leads_to q (closing {i = i} e c) = inl (i, e, c)
  leads_to q (takes {j = j} h t) =
      let b = by_taking j q t in
      let who : p.who ≡ b.0 = ap (λ x. x.who) b.3 in
      inr (j, b.1, subst (IsNew T j b.1) (sym who) b.2, b.3 ∙ ap first_point (sym who), b.4)

  rest_leads : RestsOnFallen T p → (q : Point) × (Closing q ⊎ Born q) × RestsOnFallen T q
  rest_leads r = ⊎_elim
      (λ f. absurd (idle (fallen_made T p f)))
      (λ x. (x.0, leads_to x.0 x.1, x.2))
      (rest_cases T p r)

  -- at interval 0
  pub later_rests_not : p.interval ≡ 0 → 0 < p.incarnation → IsSource T p sources.Nothing
  later_rests_not z more r = ⊎_elim
      (λ c. omega (arith, c.1, z))
      (λ b. omega (arith, more, ap (λ x. x.incarnation) b.3))
      (rest_leads r).1

  pub unborn_rests_not : p.interval ≡ 0 → IsBirth T p.who None → IsSource T p sources.Nothing
  unborn_rests_not z none r = ⊎_elim
      (λ c. omega (arith, c.1, z))
      (λ b. none b.0 b.1 b.2)
      (rest_leads r).1

  carries_rests : (place : ℕ) → p ≡ first_point p.who → IsBirth T p.who (Some place) → CarriesFallen T place → RestsOnFallen T p
  carries_rests place e birth c = ⊎_elim
      (λ (same : p ≡ c.0). subst (RestsOnFallen T) (sym same) c.2)
      (λ m. rest_on T p c.0 (linked m) c.2)
      (taker_makes T p c.0 place (tables.by_new birth.1 e) c.1)
    where
      linked : Makes T place p c.0 → Link T Everywhere p c.0
      linked (links.takes t) = takes {j = place} tt t
      linked (links.closes x at f) = absurd (omega (arith, f, ap (λ x. x.interval) e))

  pub born_source : (place : ℕ) → p.interval ≡ 0 → p.incarnation ≡ 0 → IsBirth T p.who (Some place) → IsSource T p (sources.Birth place)
  born_source place z none birth = (
    λ r. let x = rest_leads r in ⊎_elim
        (λ c. absurd (omega (arith, c.1, z)))
        (λ b. let same : b.0 ≡ place = new_once T b.0 place b.1 birth.0 p.who b.2 birth.1 in (x.0, subst (λ j. Carried T j x.0) same b.4, x.2))
        x.1,
    carries_rests place first birth,
  ) where
    first : p ≡ first_point p.who
    first = λ i. record { who = p.who; interval = z i; incarnation = none i }

  -- at a later one
  pub unclosed_rests_not : 1 ≤ p.interval → ((q : Point) → ClosesBefore T p q ↔ (None ≡ Some q)) → IsSource T p sources.Nothing
  unclosed_rests_not le told r =
      let x = rest_leads r in ⊎_elim
      (λ c. let e = (told x.0).0 c in cc)
      (λ b. omega (arith, le, ap (λ y. y.interval) b.3))
      x.1

  only_closing : (z : Point) → 1 ≤ p.interval → ((q : Point) → ClosesBefore T p q ↔ (Some z ≡ Some q)) → RestsOnFallen T p → RestsOnFallen T z
  only_closing z le told r =
      let x = rest_leads r in ⊎_elim
      (λ c. subst (RestsOnFallen T) (sym (same_some ((told x.0).0 c))) x.2)
      (λ b. absurd (omega (arith, le, ap (λ y. y.interval) b.3)))
      x.1

  pub opened_rests_not : (z : Point) → 1 ≤ p.interval → ((q : Point) → ClosesBefore T p q ↔ (Some z ≡ Some q)) → IsOpeningPoint T z → IsSource T p sources.Nothing
  opened_rests_not z le told o r = opening_rests_not T z o (only_closing z le told r)

  closed_made : (z : Point) (i : ℕ) → ClosesAt T Everywhere p.who i z → ¬ IsOpeningPoint T z → IsMade T z
  closed_made z i (checkpoint {j = j} h k at f) never = check_made T j z (record { by = p.who; closes = k; at_point = at })
  closed_made z i (opening w f o) never = absurd (never o)

  pub closed_source : (z : Point) → 1 ≤ p.interval → ((q : Point) → ClosesBefore T p q ↔ (Some z ≡ Some q)) → ¬ IsOpeningPoint T z → IsSource T p (sources.Point z)
  closed_source z le told never =
      let c : ClosesBefore T p z = (told z).1 refl in (
        closed_made z c.0 c.2 never,
        (only_closing z le told, λ r. rest_on T p z (closing {i = c.0} c.1 c.2) r),
      )

-- states with what tells of them, one by one
pub sourced_next : (T : Run) (states : List State) (n : ℕ) (s : State) (x : Sourced) (old new : List Sourced) → AreSourced T states n old → new ≡ old ++ x ∷ [] → slice_get states n ≡ Some s → IsSourced T s x → AreSourced T states (n + 1) new
sourced_next T states n s x old new h is at here = record {
  count_is = longer old new x n h.count_is is;
  each = all_places (λ i a b. IsSourced T a b) states n old new s x h.count_is is at here h.each;
}

pub lanes_sourced_next : (T : Run) (lanes : List (Vec State Global)) (n : ℕ) (v : Vec State Global) (w : Vec Sourced Global) (old new : List (Vec Sourced Global)) → AreLanesSourced T lanes n old → new ≡ old ++ w ∷ [] → slice_get lanes n ≡ Some v → AreSourced T v.items (length v.items) w.items → AreLanesSourced T lanes (n + 1) new
lanes_sourced_next T lanes n v w old new h is at here = record {
  count_is = longer old new w n h.count_is is;
  each = all_places (λ i a b. AreSourced T a.items (length a.items) b.items) lanes n old new v w h.count_is is at here h.each;
}

-- the states of a lane are states
pub lane_all_states : (T : Run) (plan : Plan) (lanes : List (Vec State Global)) (r : ℕ) (v : Vec State Global) → AreLaneStates T plan lanes → slice_get lanes r ≡ Some v → All (IsState T) v.items
lane_all_states T plan lanes r v are at i d lt = ⊎_elim
    (λ l. ((are.each r l.0 v l.2 at).only (get_or v.items i d) (i, lt, get_or_default v.items i (get_or v.items i d) d lt)).1)
    (λ l. absurd (omega (arith, l.0, slice_get_within lanes r v at, are.count_is)))
    (slice_get_cases plan.lanes r).1

-- a step was made at each point that a step carries
pub carried_made : (T : Run) (j : ℕ) (xs : List Point) → ((q : Point) → Contains xs q ↔ Carried T j q) → All (IsMade T) xs
carried_made T j xs told i d lt =
    let q = get_or xs i d in
    let closed : IsCausallyClosed T Everywhere = record { closed = λ k m e n. tt } in
    let s = stood_touched T Everywhere q (carried_touched Everywhere T j q closed tt ((told q).0 (i, lt, get_or_default xs i q d lt))) in
    record { place = s.place; acts = s.acts; at_point = s.at_point }

-- some point that it carries rests on a rolled-back one
pub carries_told : (T : Run) (j : ℕ) (xs resting : List Point) (b : Bool) → ((q : Point) → Contains xs q ↔ Carried T j q) → ((q : Point) → Contains resting q ↔ (Contains xs q × RestsOnFallen T q)) → (IsTrue b ↔ (resting ≡ [])) → IsTrue (not b) ↔ CarriesFallen T j
carries_told T j xs [] b carried told empty = (
  λ f. let g = empty.1 refl in absurd (cc),
  λ c. absurd (Contains-none c.0 ((told c.0).1 ((carried c.0).1 c.1, c.2))),
)
carries_told T j xs (x ∷ resting) true carried told empty = let f = empty.0 refl in absurd (cc)
carries_told T j xs (x ∷ resting) false carried told empty = (
  λ f. let h = (told x).0 (Contains-head x resting) in (x, (carried x).0 h.0, h.1),
  λ c. refl,
)
