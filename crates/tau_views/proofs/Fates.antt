-- The fates that the view of a closed set of places has are what the set knows.
use Rattle.std.proofs.Common.{◌≡◌, ◌≢◌, ◌⊎◌, inl, inr, ⊎_elim, ℕ, ◌<◌, IsTrue, Option, Some, None, refl, sym, ap, ◌∙◌, subst}
use Rattle.tau_history.specs.Timeline.{Timeline, interval, fall}
use Rattle.tau_history.specs.Fates.{fate}
use Rattle.tau_history.specs.declared.fate.Fate.{Fate}
use Rattle.tau_history.specs.declared.fate.Fate.TheVariants.{Ahead, Open, Stable, Closed, Fallen}
use Rattle.tau_history.proofs.Table.{has_row, fate_by_row}
use Rattle.tau_history.proofs.Later.{own_not_ahead}
use Rattle.tau_points.specs.declared.point.Point.{Point}
use Rattle.tau_view.specs.Held.{Held, fate_by, fate_in, is_firm}
use Rattle.tau_trace.specs.declared.step.Step.TheVariants.{Stabilize, Checkpoint}
use Rattle.tau_trace.specs.Run.{Run, step_at, ActsAt}
use Rattle.tau_trace.specs.Histories.{history, Falls, Closes}
use Rattle.tau_trace.specs.Points.{point_at, Stabilizes, MadeAt, IsOpeningPoint}
use Rattle.tau_trace.specs.Known.{WellFormed}
use Rattle.tau_trace.proofs.Moves.{own_move}
use Rattle.tau_trace.proofs.PointLemmas.{fates_are_steps}
use Rattle.tau_trace.proofs.Quiet.{acts}
use Rattle.tau_past.specs.Heard.{IsCausallyClosed, HoldsStepsBefore, Bound}
use Rattle.tau_past.specs.Pasts.{FellIn, StabilizedIn, FirmIn}
use Rattle.tau_past.specs.Safety.{KeepsRules}
use Rattle.tau_past.proofs.BoundLemmas.{bound_history}
use Rattle.tau_past.proofs.FixedLemmas.{was_stabilized}
use Rattle.tau_past.proofs.HeardLemmas.{absorbs}
use Rattle.tau_views.specs.Views.{IsPresent, is_owner, by_step, IsView}

-- x is the view of the closed set H, which has a bound at each transactor
pub record IsViewOfClosed (T : Run) (H : ℕ → Type 0) (owner : Option ℕ) (roots : Point → Type 0) (x : Held) : Type 0 where
  pub view : IsView T H owner roots x
  pub closed : IsCausallyClosed T H
  pub bounds : (u : ℕ) → (a : ℕ) × Bound T H u a

-- the view has the history of u after its last step in H
pub record HasHistory (T : Run) (H : ℕ → Type 0) (x : Held) (u : ℕ) : Type 0 where
  pub bound : ℕ
  pub is_bound : Bound T H u bound
  pub is : x.history u ≡ Some (history T u bound)

-- a Checkpoint at point q is in H
pub record ClosedIn (T : Run) (H : ℕ → Type 0) (q : Point) : Type 0 where
  pub place : ℕ
  pub held : H place
  pub closes : Closes T q.who place
  pub at_point : q ≡ point_at T q.who place

-- steps of these kinds are steps of their transactor
pub falls_acts : (T : Run) (t k : ℕ) → Falls T t k → ActsAt T t k
falls_acts T t k f = let own = own_move t (history T t k).stable (step_at T k) fall (λ e. cc) f in acts T t k own.step own.stands own.by

pub closes_acts : (T : Run) (t k : ℕ) → Closes T t k → ActsAt T t k
closes_acts T t k e = acts T t k (Checkpoint t) e refl

pub stabilizes_acts : (T : Run) (t k : ℕ) → Stabilizes T t k → ActsAt T t k
stabilizes_acts T t k e = acts T t k (Stabilize t) e refl

module _ {T : Run} {H : ℕ → Type 0} {owner : Option ℕ} {roots : Point → Type 0} {x : Held} (known : IsViewOfClosed T H owner roots x) where
  -- the view has the history of each transactor that is present
  pub present_has : (u : ℕ) → IsPresent T H owner u → HasHistory T H x u
  present_has u p =
      let b = known.bounds u in
      record { bound = b.0; is_bound = b.1; is = (known.view.history u (history T u b.0)).1 (record { present = p; bound = b.0; is_bound = b.1; is = refl }) }

  step_has : (u j : ℕ) → H j → ActsAt T u j → HasHistory T H x u
  step_has u j h a = present_has u (by_step h a)

  some_has : (u : ℕ) (h : Timeline) → x.history u ≡ Some h → HasHistory T H x u
  some_has u h e = let k = (known.view.history u h).0 e in record { bound = k.bound; is_bound = k.is_bound; is = e ∙ ap Some k.is }

  -- and of the transactor of each point that isn't Ahead
  pub reached_has : (q : Point) → fate_in x.history q ≢ Ahead → HasHistory T H x q.who
  reached_has q n = by_history (x.history q.who) refl where
    by_history : (o : Option Timeline) → x.history q.who ≡ o → HasHistory T H x q.who
    by_history None e = absurd (n (ap (λ o. fate_by o q) e))
    by_history (Some h) e = some_has q.who h e

  pub fate_is : (q : Point) (has : HasHistory T H x q.who) → fate_in x.history q ≡ fate (history T q.who has.bound) q.interval q.incarnation
  fate_is q has = ap (λ o. fate_by o q) has.is

  -- what a step in H made at a point was made before the bound
  pub before_bound : (P : ℕ → Type 0) (q : Point) (has : HasHistory T H x q.who) (j : ℕ) → ActsAt T q.who j → H j → P j → q ≡ point_at T q.who j → MadeAt P T q has.bound
  before_bound P q has j a h p e = record { place = j; before = (has.is_bound.steps j a).0 h; holds = p; at_point = e }

  -- and what was made before the bound was made by a step in H
  pub held_below : (q : Point) (has : HasHistory T H x q.who) (j : ℕ) → ActsAt T q.who j → j < has.bound → H j
  held_below q has j a l = (has.is_bound.steps j a).1 l

  -- Fallen is known fallen
  pub fallen_known : (q : Point) → fate_in x.history q ≡ Fallen → FellIn T H q
  fallen_known q e =
      let has = reached_has q (λ a. let both : Ahead ≡ Fallen = sym a ∙ e in cc) in
      let made = (fates_are_steps T q has.bound).fallen.0 (has_row (history T q.who has.bound) q.interval q.incarnation Fallen (sym (fate_is q has) ∙ e)) in
      record { place = made.place; held = held_below q has made.place (falls_acts T q.who made.place made.holds) made.before; falls = made.holds; at_point = made.at_point }

  pub known_fallen : (q : Point) → FellIn T H q → fate_in x.history q ≡ Fallen
  known_fallen q f =
      let a = falls_acts T q.who f.place f.falls in
      let has = step_has q.who f.place f.held a in
      fate_is q has ∙ fate_by_row (history T q.who has.bound) q.interval q.incarnation Fallen ((fates_are_steps T q has.bound).fallen.1 (before_bound (Falls T q.who) q has f.place a f.held f.falls f.at_point))

  -- the point of a step in H isn't Ahead
  pub made_not_ahead : (q : Point) (j : ℕ) → H j → ActsAt T q.who j → q ≡ point_at T q.who j → fate_in x.history q ≢ Ahead
  made_not_ahead q j h a e f =
      let has = step_has q.who j h a in
      (fates_are_steps T q has.bound).reached (before_bound (ActsAt T q.who) q has j a h a e) (has_row (history T q.who has.bound) q.interval q.incarnation Ahead (sym (fate_is q has) ∙ f))

  -- nor is the owner's own point
  pub own_reached : (t k : ℕ) → owner ≡ Some t → HoldsStepsBefore T H t k → fate_in x.history (point_at T t k) ≢ Ahead
  own_reached t k o before f =
      let has = present_has t (is_owner o) in
      let same = bound_history H T t has.bound k before has.is_bound in
      let h = history T t k in
      own_not_ahead h (interval h) h.last (record { interval_is = refl; incarnation_is = refl })
      (ap (λ a. fate a (interval h) h.last) (sym same) ∙ sym (fate_is (point_at T t k) has) ∙ f)

  -- a Closed point is the opening point of a start or has a Checkpoint in H
  pub closed_known : (q : Point) → fate_in x.history q ≡ Closed → IsOpeningPoint T q ⊎ ClosedIn T H q
  closed_known q e =
      let has = reached_has q (λ a. let both : Ahead ≡ Closed = sym a ∙ e in cc) in
      ⊎_elim (λ o. inl o)
      (λ made. inr (record { place = made.place; held = held_below q has made.place (closes_acts T q.who made.place made.holds) made.before; closes = made.holds; at_point = made.at_point }))
      ((fates_are_steps T q has.bound).closed.0 (has_row (history T q.who has.bound) q.interval q.incarnation Closed (sym (fate_is q has) ∙ e)))

  -- a Stable point has a Stabilize in H
  stable_known : (q : Point) → fate_in x.history q ≡ Stable → StabilizedIn T H q
  stable_known q e =
      let has = reached_has q (λ a. let both : Ahead ≡ Stable = sym a ∙ e in cc) in
      let made = (fates_are_steps T q has.bound).stable (has_row (history T q.who has.bound) q.interval q.incarnation Stable (sym (fate_is q has) ∙ e)) in
      record { place = made.place; held = held_below q has made.place (stabilizes_acts T q.who made.place made.holds) made.before; stabilizes = made.holds; at_point = made.at_point }

  -- and so has the point of a Checkpoint in H, where the rules are kept
  checkpoint_stabilized : WellFormed T → KeepsRules T → (q : Point) → ClosedIn T H q → StabilizedIn T H q
  checkpoint_stabilized w rules q c =
      let z = was_stabilized T q.who c.place w rules c.closes in
      record {
        place = z.place;
        held = absorbs T H c.place q.who known.closed c.held (closes_acts T q.who c.place c.closes) z.place z.held;
        stabilizes = z.stabilizes;
        at_point = c.at_point ∙ z.at_point;
      }

  -- firm is known firm, where the rules are kept
  pub firm_known : WellFormed T → KeepsRules T → (q : Point) → IsTrue (is_firm (fate_in x.history q)) → FirmIn T H q
  firm_known w rules q firm = by_fate (fate_in x.history q) refl where
    not_fallen : FellIn T H q → ⊥
    not_fallen f = let g : IsTrue (is_firm Fallen) = subst (λ d. IsTrue (is_firm d)) (known_fallen q f) firm in cc

    by_fate : (f : Fate) → fate_in x.history q ≡ f → FirmIn T H q
    by_fate Stable e = record { not_fallen = not_fallen; settled = inl (stable_known q e) }
    by_fate Closed e = record { not_fallen = not_fallen; settled = ⊎_elim (λ o. inr o) (λ c. inl (checkpoint_stabilized w rules q c)) (closed_known q e) }
    by_fate Ahead e = absurd (let g : IsTrue (is_firm Ahead) = subst (λ d. IsTrue (is_firm d)) e firm in cc)
    by_fate Open e = absurd (let g : IsTrue (is_firm Open) = subst (λ d. IsTrue (is_firm d)) e firm in cc)
    by_fate Fallen e = absurd (let g : IsTrue (is_firm Fallen) = subst (λ d. IsTrue (is_firm d)) e firm in cc)

  firm_of : (q : Point) (f : Fate) → fate_in x.history q ≡ f → IsTrue (is_firm f) → IsTrue (is_firm (fate_in x.history q))
  firm_of q f e h = subst (λ d. IsTrue (is_firm d)) (sym e) h

  -- a point that isn't Ahead and is known firm is firm
  pub known_firm : (q : Point) → fate_in x.history q ≢ Ahead → FirmIn T H q → IsTrue (is_firm (fate_in x.history q))
  known_firm q n f = by_settled f.settled where
    has : HasHistory T H x q.who
    has = reached_has q n

    stable : (e : fate (history T q.who has.bound) q.interval q.incarnation ≡ Stable) → IsTrue (is_firm (fate_in x.history q))
    stable e = firm_of q Stable (fate_is q has ∙ e) refl

    closed : (e : fate (history T q.who has.bound) q.interval q.incarnation ≡ Closed) → IsTrue (is_firm (fate_in x.history q))
    closed e = firm_of q Closed (fate_is q has ∙ e) refl

    by_settled : StabilizedIn T H q ⊎ IsOpeningPoint T q → IsTrue (is_firm (fate_in x.history q))
    by_settled (inr o) = closed (fate_by_row (history T q.who has.bound) q.interval q.incarnation Closed ((fates_are_steps T q has.bound).closed.1 (inl o)))
    by_settled (inl s) = ⊎_elim
        (λ r. ⊎_elim
        (λ z. stable (fate_by_row (history T q.who has.bound) q.interval q.incarnation Stable z))
        (λ z. closed (fate_by_row (history T q.who has.bound) q.interval q.incarnation Closed z))
        r)
        (λ z. absurd (f.not_fallen (fallen_known q (fate_is q has ∙ fate_by_row (history T q.who has.bound) q.interval q.incarnation Fallen z))))
        ((fates_are_steps T q has.bound).settled (before_bound (Stabilizes T q.who) q has s.place (stabilizes_acts T q.who s.place s.stabilizes) s.held s.stabilizes s.at_point))
