-- The known past in the view of a closed set of places is the known past in the set.
use Rattle.std.proofs.Common.{◌≡◌, ◌≢◌, ◌↔◌, inl, inr, ⊎_elim, ℕ, ◌<◌, IsTrue, Option, Some, arith, refl, sym, ap, ◌∙◌, subst}
use Rattle.std.specs.Prelude.{slice_get}
use Rattle.std.proofs.lemmas.Option.{get_or_from_slice_get, slice_get-get_or}
use Rattle.tau_history.specs.Timeline.{Timeline, numbers, interval}
use Rattle.tau_history.specs.Fates as rows
use Rattle.tau_history.specs.declared.fate.Fate.TheVariants.{Ahead, Closed}
use Rattle.tau_history.proofs.Table.{fate_by_row, reached_of, length-numbers}
use Rattle.tau_points.specs.declared.point.Point.{Point}
use Rattle.tau_points.proofs.Reach.{monotone, restricted}
use Rattle.tau_view.specs.Held.{Held, Points, fate_by, fate_in}
use Rattle.tau_view.specs.Past as views
use Rattle.tau_view.specs.Past.{number_in, edge, before, KnownPast}
use Rattle.tau_trace.specs.Run.{Run, starts}
use Rattle.tau_trace.specs.Histories.{history, Closes}
use Rattle.tau_trace.specs.Points.{point_at, IsOpeningPoint}
use Rattle.tau_trace.proofs.PointLemmas.{fates_are_steps}
use Rattle.tau_trace.proofs.Quiet.{acts}
use Rattle.tau_past.specs.Carried.{TakesBy, by_set, by_new, Carried}
use Rattle.tau_past.specs.KnownLaws.{TouchedIn}
use Rattle.tau_past.specs.Pasts.{ClosesAt, checkpoint, opening, Link, takes, closing, PastIn}
use Rattle.tau_past.proofs.HeardLemmas.{carried_touched}
use Rattle.tau_views.proofs.Fates.{IsViewOfClosed, HasHistory, closes_acts, reached_has, fate_is, before_bound, held_below, made_not_ahead}

-- a place carries what is taken by it
taken_carried : (T : Run) (j : ℕ) (p q : Point) → TakesBy T j p q → Carried T j q
taken_carried T j p q (by_set d e c ne) = c
taken_carried T j p q (by_new n e c ne) = c

-- q is a point of transactor u at interval i at which the interval was closed, by the history of u at place a
record IsClosedAt (T : Run) (u i a : ℕ) (q : Point) : Type 0 where
  who_is : q.who ≡ u
  interval_is : q.interval ≡ i
  closed : rows.IsClosed (history T u a) q.interval q.incarnation

module _ {T : Run} {H : ℕ → Type 0} {owner : Option ℕ} {roots : Point → Type 0} {x : Held} (known : IsViewOfClosed T H owner roots x) where
  -- the view doesn't have the point Ahead
  abbrev IsReached : Point → Type 0
  IsReached q = fate_in x.history q ≢ Ahead

  -- the point of a touching step in H isn't Ahead
  pub touched_reached : (q : Point) → TouchedIn T H q → IsReached q
  touched_reached q t = made_not_ahead known q t.place t.held (acts T q.who t.place t.touching.step t.touching.stands t.touching.by) t.at_point

  -- the closing point of an interval, known in H, is Closed by the history at the bound
  closing_closed : (u i : ℕ) (has : HasHistory T H x u) (q : Point) → ClosesAt T H u i q → IsClosedAt T u i has.bound q
  closing_closed u i has q (checkpoint {j = j} h c e f) = record { who_is = ap (λ y. y.who) e; interval_is = f; closed = subst (λ y. rows.IsClosed (history T u has.bound) y.interval y.incarnation) (sym e) at_step } where
    z : Point
    z = point_at T u j

    at_step : rows.IsClosed (history T u has.bound) z.interval z.incarnation
    at_step = (fates_are_steps T z has.bound).closed.1 (inr (before_bound known (Closes T u) z has j (closes_acts T u j c) h c refl))
  closing_closed u i has q (opening e f o) = record { who_is = e; interval_is = o.interval_is ∙ sym f; closed = at_start } where
    z : Point
    z = record { who = u; interval = q.interval; incarnation = q.incarnation }

    is_opening : IsOpeningPoint T z
    is_opening = record { is_start = subst (λ w. w < starts T) e o.is_start; interval_is = o.interval_is; incarnation_is = o.incarnation_is }

    at_start : rows.IsClosed (history T u has.bound) q.interval q.incarnation
    at_start = (fates_are_steps T z has.bound).closed.1 (inl is_opening)

  -- and the other way round
  closed_closing : (u i n : ℕ) (has : HasHistory T H x u) → rows.IsClosed (history T u has.bound) i n → ClosesAt T H u i (record { who = u; interval = i; incarnation = n })
  closed_closing u i n has c = ⊎_elim
      (λ o. opening refl o.interval_is o)
      (λ m. checkpoint (held_below known z has m.place (closes_acts T u m.place m.holds) m.before) m.holds m.at_point refl)
      ((fates_are_steps T z has.bound).closed.0 c) where
        z : Point
        z = record { who = u; interval = i; incarnation = n }

  -- what a point that isn't Ahead leads to isn't Ahead
  link_reached : (p q : Point) → IsReached p → Link T H p q → IsReached q
  link_reached p q r (takes {j = j} h t) = touched_reached q (carried_touched H T j q known.closed h (taken_carried T j p q t))
  link_reached p q r (closing {i = i} e c) = λ ahead. clash ahead where
    has : HasHistory T H x p.who
    has = reached_has known p r

    at : IsClosedAt T p.who i has.bound q
    at = closing_closed p.who i has q c

    is_closed : fate_in x.history q ≡ Closed
    is_closed = ap (λ u. fate_by (x.history u) q) at.who_is ∙ ap (λ o. fate_by o q) has.is ∙ fate_by_row (history T p.who has.bound) q.interval q.incarnation Closed at.closed

    clash : fate_in x.history q ≡ Ahead → ⊥
    clash ahead = let both : Closed ≡ Ahead = sym is_closed ∙ ahead in cc

  -- from a point that isn't Ahead the view's links are those known in H
  link_known : (p q : Point) → IsReached p → views.Link x p q → Link T H p q
  link_known p q r (edge e) = let t = (known.view.edge p q).0 e in takes t.held t.takes
  link_known p q r (before {i = i} {n = n} e number is) = closing e (subst (ClosesAt T H p.who i) (sym is) (closed_closing p.who i n has closed)) where
    has : HasHistory T H x p.who
    has = reached_has known p r

    h : Timeline
    h = history T p.who has.bound

    below : i < interval h
    below = omega (arith, e, (reached_of h p.interval p.incarnation (λ a. r (fate_is known p has ∙ a))).within)

    at : slice_get (numbers h) i ≡ Some n
    at = ap (λ o. number_in o i) (sym has.is) ∙ number

    closed : rows.IsClosed h i n
    closed = record { below = below; number = sym (get_or_from_slice_get (numbers h) i n 0 at) }

  known_link : (p q : Point) → IsReached p → Link T H p q → views.Link x p q
  known_link p q r (takes {j = j} h t) = edge ((known.view.edge p q).1 (record { place = j; held = h; takes = t }))
  known_link p q r (closing {i = i} e c) = before {i = i} {n = q.incarnation} e number is where
    has : HasHistory T H x p.who
    has = reached_has known p r

    h : Timeline
    h = history T p.who has.bound

    at : IsClosedAt T p.who i has.bound q
    at = closing_closed p.who i has q c

    closed : rows.IsClosed h i q.incarnation
    closed = subst (λ j. rows.IsClosed h j q.incarnation) at.interval_is at.closed

    number : number_in (x.history p.who) i ≡ Some q.incarnation
    number = ap (λ o. number_in o i) has.is ∙ slice_get-get_or (numbers h) i 0 (omega (arith, closed.below, length-numbers h)) ∙ ap Some (sym closed.number)

    is : q ≡ record { who = p.who; interval = i; incarnation = q.incarnation }
    is = λ k. record { who = at.who_is k; interval = at.interval_is k; incarnation = q.incarnation }

  -- from points that aren't Ahead the known past of the view is that in H, and no point of it is Ahead
  pub record SamePast (from : Points) (P : Point → Type 0) (q : Point) : Type 0 where
    pub forth : KnownPast x from q → PastIn T H P q
    pub back : PastIn T H P q → KnownPast x from q
    pub reached : KnownPast x from q → IsReached q

  pub same_past : (from : Points) (P : Point → Type 0) → ((q : Point) → IsTrue (from q) ↔ P q) → ((q : Point) → P q → IsReached q) → (q : Point) → SamePast from P q
  same_past from P same reached q = record {
    forth = λ p. monotone (Link T H) (Link T H) S P (λ y z l. l) (λ y s. (same y).0 s) q (alike.0.0 p);
    back = λ p. alike.0.1 (monotone (Link T H) (Link T H) P S (λ y z l. l) (λ y s. (same y).1 s) q p);
    reached = alike.1;
  } where
    S : Point → Type 0
    S y = IsTrue (from y)

    alike : (KnownPast x from q ↔ PastIn T H S q) × (KnownPast x from q → IsReached q)
    alike = restricted (views.Link x) (Link T H) S IsReached
        (record { starts = λ y s. reached y ((same y).0 s); follows = λ y z r l. link_reached y z r (link_known y z r l) })
        (λ y z r. (link_known y z r, known_link y z r)) q
