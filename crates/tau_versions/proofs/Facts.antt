-- What fates and takes by the versions heard of tell of a run.
use Rattle.std.proofs.Common.{◌≡◌, ◌≢◌, ◌⊎◌, ◌↔◌, inl, inr, ⊎_elim, ℕ, ◌<◌, IsTrue, List, [], Option, Some, refl, sym, ap, ◌∙◌, subst, arith}
use Rattle.std.specs.Prelude.{slice_get, Contains, IsFalse}
use Rattle.std.specs.Option.{option_map_or}
use Rattle.std.proofs.lemmas.Bool.{cases_Bool}
use Rattle.std.proofs.lemmas.Option.{slice_get_cases}
use Rattle.tau_history.specs.Timeline.{Timeline}
use Rattle.tau_history.specs.Fates.{fate}
use Rattle.tau_history.specs.declared.fate.Fate.{Fate}
use Rattle.tau_history.specs.declared.fate.Fate.TheVariants.{Ahead, Open, Stable, Closed, Fallen}
use Rattle.tau_history.proofs.Table.{has_row, fate_by_row}
use Rattle.tau_points.specs.declared.point.Point.{Point}
use Rattle.tau_points.specs.Reach.{start, next}
use Rattle.tau_points.proofs.Reach.{least}
use Rattle.tau_trace.specs.Run.{Run, ActsAt}
use Rattle.tau_trace.specs.Histories.{history}
use Rattle.tau_trace.specs.Points.{point_at, IsOpeningPoint}
use Rattle.tau_trace.specs.Numbering.{born, IsNew}
use Rattle.tau_trace.specs.Laws.{FatesAreSteps}
use Rattle.tau_trace.specs.declared.step.Step.TheVariants.{Checkpoint, Stabilize}
use Rattle.tau_trace.proofs.Agreement.{born-grows}
use Rattle.tau_trace.proofs.PointLemmas.{fates_are_steps}
use Rattle.tau_trace.proofs.Quiet.{acts}
use Rattle.tau_past.specs.Carried.{Carried, TakesBy, by_set, by_new}
use Rattle.tau_past.specs.Heard.{Needs, Own, own_step, own_birth, Heard, IsCausallyClosed, HoldsStepsBefore, Bound}
use Rattle.tau_past.specs.Heard as heard
use Rattle.tau_past.specs.KnownLaws.{TouchedIn}
use Rattle.tau_past.specs.Pasts.{checkpoint, opening, takes, Past, PastIn, Is, FellIn, StabilizedIn, FirmIn}
use Rattle.tau_past.proofs.BoundLemmas.{bound_history}
use Rattle.tau_past.proofs.Expected.{stands_alone}
use Rattle.tau_past.proofs.FixedLemmas.{fixes_past}
use Rattle.tau_past.proofs.HeardLemmas.{absorbs, carried_touched}
use Rattle.tau_past.proofs.Known.{acts_known}
use Rattle.tau_past.proofs.Safety.{nothing_at_opening, known_in_past}
use Rattle.tau_versions.specs.Logs.Told.{Told}
use Rattle.tau_versions.specs.Logs.Takes.{taken, ClosedIn, Covered, TellsTaken}
use Rattle.tau_versions.specs.Logs.Known.{TellsKnown}
use Rattle.tau_versions.specs.Logs.Reading.{fate_told, takes_told}
use Rattle.tau_versions.proofs.ByNumber.{fate_told_is, takes_told_are}
use Rattle.tau_versions.proofs.Known.{fates_at_bounds_tell_the_known}
use Rattle.tau_versions.proofs.Taking.{cover_on}
use Rattle.tau_versions.specs.Search.Logs.{TellsBound, IsTold}
use Rattle.tau_versions.specs.Search.Searching.{fate_of, takes_of, goes_on, is_not_firm, Leads, Found}
use Rattle.tau_versions.proofs.Positions.{Kind, closed_point, fallen_point, open_point}

-- the point that takes in H is at a step of its transactor in H, or is made by a New
taker_own : (T : Run) (H : ℕ → Type 0) (p q : Point) (a j : ℕ) → Bound T H p.who a → H j → TakesBy T j p q → Own T p.who a j
taker_own T H p q a j b h (by_set {t = t} d e c ne) =
    let who : t ≡ p.who = sym (ap (λ x. x.who) e) in
    let act : ActsAt T p.who j = let F : ℕ → Type 0 = λ u. ActsAt T u j in subst F who (acts T t j d.step d.stands d.by) in own_step act ((b.steps j act).0 h)
taker_own T H p q a j b h (by_new {by = by} {u = u} n e c ne) =
    let who : u ≡ p.who = sym (ap (λ x. x.who) e) in let F : ℕ → Type 0 = λ w. IsNew T j by w in own_birth (subst F who n)

takes_carried : (T : Run) (p q : Point) (j : ℕ) → TakesBy T j p q → Carried T j q
takes_carried T p q j (by_set d e c ne) = c
takes_carried T p q j (by_new n e c ne) = c

goes_cases : (f : Fate) → IsTrue (goes_on f) → (f ≡ Open) ⊎ (f ≡ Stable)
goes_cases Open e = inl refl
goes_cases Stable e = inr refl
goes_cases f e = absurd (cc)

-- a point of a transactor that has a log, whose New is in H, and that the history heard of has come to
pub record Reached (T : Run) (H : ℕ → Type 0) (logs : List Told) (numbers : ℕ → ℕ) (q : Point) : Type 0 where
  pub log : Told
  pub stands : slice_get logs q.who ≡ Some log
  pub birth : (j by : ℕ) → IsNew T j by q.who → H j
  pub not_ahead : fate_of logs numbers q ≢ Ahead

module _ (T : Run) (H : ℕ → Type 0) (n : ℕ) (logs : List Told) (numbers : ℕ → ℕ) (told : IsTold T H n logs numbers) (closed : IsCausallyClosed T H) (below : (j : ℕ) → H j → j < n) where
  pub log_at : (u : ℕ) → u < born T n → (log : Told) × (slice_get logs u ≡ Some log)
  log_at u lt = ⊎_elim (λ s. (s.0, s.2)) (λ p. absurd (omega (arith, p.0, told.logs_are.count, lt))) (slice_get_cases logs u).1

  fate_is : (q : Point) (log : Told) (e : slice_get logs q.who ≡ Some log) → fate_of logs numbers q ≡ fate (history T q.who (told.numbers_tell q.who log e).place) q.interval q.incarnation
  fate_is q log e =
      let b = told.numbers_tell q.who log e in
      let G : Option Told → Fate = λ o. option_map_or (λ (l : Told). fate_told l (numbers q.who) q.interval q.incarnation) o Ahead in
      ap G e ∙ fate_told_is T q.who n b.place (numbers q.who) q.interval q.incarnation log b.version (told.logs_are.each q.who log e).histories b.within b.latest

  known : (q : Point) (log : Told) (e : slice_get logs q.who ≡ Some log) → TellsKnown T H q (told.numbers_tell q.who log e).place
  known q log e = let b = told.numbers_tell q.who log e in fates_at_bounds_tell_the_known H T q b.place b.bound

  pub fallen_is : (q : Point) → Reached T H logs numbers q → (fate_of logs numbers q ≡ Fallen) ↔ FellIn T H q
  fallen_is q r = (
    λ e. (known q r.log r.stands).fallen.0 (sym (fate_is q r.log r.stands) ∙ e),
    λ f. fate_is q r.log r.stands ∙ (known q r.log r.stands).fallen.1 f,
  )

  closed_is : (q : Point) → Reached T H logs numbers q → fate_of logs numbers q ≡ Closed → ClosedIn T H q
  closed_is q r e = (known q r.log r.stands).closed.0 (sym (fate_is q r.log r.stands) ∙ e)

  -- what u had done at its bound is in H, and what it had heard
  own_held : (u : ℕ) (log : Told) (e : slice_get logs u ≡ Some log) → ((j by : ℕ) → IsNew T j by u → H j) → (j : ℕ) → Own T u (told.numbers_tell u log e).place j → H j
  own_held u log e birth j (own_step a lt) = (((told.numbers_tell u log e).bound).steps j a).1 lt
  own_held u log e birth j (own_birth {by = by} b) = birth j by b

  heard_held : (u : ℕ) (log : Told) (e : slice_get logs u ≡ Some log) → ((j by : ℕ) → IsNew T j by u → H j) → (j : ℕ) → Heard T u (told.numbers_tell u log e).place j → H j
  heard_held u log e birth = least (Needs T) (Own T u (told.numbers_tell u log e).place) H (record { starts = own_held u log e birth; follows = λ x y h d. closed.closed x y h d })

  -- a point from which the search goes on is that of its transactor at the bound
  point_is : (q : Point) (r : Reached T H logs numbers q) → IsTrue (goes_on (fate_of logs numbers q)) → q ≡ point_at T q.who (told.numbers_tell q.who r.log r.stands).place
  point_is q r g =
      let h = history T q.who (told.numbers_tell q.who r.log r.stands).place in
      ⊎_elim
      (λ e. let o = (has_row h q.interval q.incarnation Open (sym (fate_is q r.log r.stands) ∙ e)).own in λ i. record { who = q.who; interval = o.interval_is i; incarnation = o.incarnation_is i })
      (λ e. let o = (has_row h q.interval q.incarnation Stable (sym (fate_is q r.log r.stands) ∙ e)).own in λ i. record { who = q.who; interval = o.interval_is i; incarnation = o.incarnation_is i })
      (goes_cases (fate_of logs numbers q) g)

  tells_taken : (u : ℕ) (log : Told) (e : slice_get logs u ≡ Some log) → TellsTaken T u (told.numbers_tell u log e).place (takes_of logs numbers u)
  tells_taken u log e =
      let b = told.numbers_tell u log e in
      let G : Option Told → List Point = λ o. option_map_or (λ (l : Told). takes_told l (numbers u)) o [] in
      let same : takes_of logs numbers u ≡ taken log.takes b.version = ap G e ∙ takes_told_are b.place (numbers u) log b.version b.latest in
      subst (TellsTaken T u b.place) (sym same) ((told.logs_are.each u log e).takes.told b.place (numbers u) b.version b.within b.latest)

  -- the takes of such a point cover all that it takes in H
  cover : (q : Point) (r : Reached T H logs numbers q) → IsTrue (goes_on (fate_of logs numbers q)) → (j : ℕ) (x : Point) → H j → TakesBy T j q x → Covered T H (takes_of logs numbers q.who) j x
  cover q r g j x h t =
      let a = (told.numbers_tell q.who r.log r.stands).place in
      let F : Point → Type 0 = λ p. TakesBy T j p x in
      let own = taker_own T H q x a j (told.numbers_tell q.who r.log r.stands).bound h t in
      cover_on T (Heard T q.who a) H (takes_of logs numbers q.who) (takes_of logs numbers q.who) j j x (heard_held q.who r.log r.stands r.birth) (λ y c. c) (omega arith)
      ((tells_taken q.who r.log r.stands).covers j x own (subst F (point_is q r g) t))

  pub kind : (q : Point) → Reached T H logs numbers q → Kind T H logs numbers q
  kind q r = by (fate_of logs numbers q) refl where
    by : (f : Fate) → fate_of logs numbers q ≡ f → Kind T H logs numbers q
    by Ahead e = absurd (r.not_ahead e)
    by Closed e = closed_point (closed_is q r e)
    by Fallen e = fallen_point ((fallen_is q r).0 e)
    by Open e = open_point (ap goes_on e) (cover q r (ap goes_on e))
    by Stable e = open_point (ap goes_on e) (cover q r (ap goes_on e))

  pub touched_reached : (q : Point) → TouchedIn T H q → Reached T H logs numbers q
  touched_reached q t = record {
    log = at.0;
    stands = at.1;
    birth = λ j by b. closed.closed t.place j t.held (heard.birth act b);
    not_ahead = λ e. (fates_are_steps T q b.place).reached (record { place = t.place; before = (b.bound.steps t.place act).0 t.held; holds = act; at_point = t.at_point })
        (has_row (history T q.who b.place) q.interval q.incarnation Ahead (sym (fate_is q at.0 at.1) ∙ e));
  } where
    act : ActsAt T q.who t.place
    act = acts T q.who t.place t.touching.step t.touching.stands t.touching.by

    at : (log : Told) × (slice_get logs q.who ≡ Some log)
    at = log_at q.who (omega (arith, acts_known T q.who t.place told.well_formed act, born-grows T t.place n (omega (arith, below t.place t.held))))

    b : TellsBound T H n q.who at.0 (numbers q.who)
    b = told.numbers_tell q.who at.0 at.1

  -- the own point of a transactor all of whose steps before n are in H
  pub own_reached : (t : ℕ) → t < born T n → ((j : ℕ) → Own T t n j → H j) → HoldsStepsBefore T H t n → Reached T H logs numbers (point_at T t n)
  own_reached t exists holds before = record {
    log = at.0;
    stands = at.1;
    birth = λ j by b. holds j (own_birth b);
    not_ahead = λ e. here (sym (fate_is (point_at T t n) at.0 at.1) ∙ e);
  } where
    at : (log : Told) × (slice_get logs t ≡ Some log)
    at = log_at t exists

    a : ℕ
    a = (told.numbers_tell t at.0 at.1).place

    same : history T t a ≡ history T t n
    same = bound_history H T t a n before (told.numbers_tell t at.0 at.1).bound

    here : fate (history T t a) (point_at T t n).interval (point_at T t n).incarnation ≢ Ahead
    here e =
        let F : Timeline → Type 0 = λ h. fate h (point_at T t n).interval (point_at T t n).incarnation ≡ Ahead in
        let row = has_row (history T t n) (point_at T t n).interval (point_at T t n).incarnation Ahead (subst F same e) in
        ⊎_elim (λ s. row.not_stable (record { own = record { interval_is = refl; incarnation_is = refl }; mode = s })) (λ s. row.not_open (record { own = record { interval_is = refl; incarnation_is = refl }; mode = s })) (cases_Bool (history T t n).stable)

  -- what is found from points that were reached is reached, and in the past of these points
  pub found_reached : (P : Point → Type 0) (roots : List Point) → ((q : Point) → Contains roots q → Reached T H logs numbers q × P q) → (q : Point) → Found logs numbers (Contains roots) q → Reached T H logs numbers q × PastIn T H P q
  found_reached P roots begins = least (Leads logs numbers) (Contains roots) (λ q. Reached T H logs numbers q × PastIn T H P q) (record { starts = λ q c. ((begins q c).0, start (begins q c).1); follows = λ p q h l. on p q h.0 h.1 l }) where
    on : (p q : Point) → Reached T H logs numbers p → PastIn T H P p → Leads logs numbers p q → Reached T H logs numbers q × PastIn T H P q
    on p q r past l =
        let took = (tells_taken p.who r.log r.stands).took q l.taken in
        let held = own_held p.who r.log r.stands r.birth took.0 took.1 in
        let F : Point → Type 0 = λ x. TakesBy T took.0 x q in
        let t = subst F (sym (point_is p r l.goes)) took.2 in (touched_reached q (carried_touched H T took.0 q closed held (takes_carried T p q took.0 t)), next past (takes held t))

  -- what lies behind a closed point is firm
  pub firm_behind : (c x : Point) → ClosedIn T H c → PastIn T H (Is c) x → FirmIn T H x
  firm_behind c x (opening a b o) r =
      let same = stands_alone T c x o (known_in_past T H c x r) in
      let here = subst (IsOpeningPoint T) (sym same) o in record { not_fallen = λ f. nothing_at_opening T x f.place here f.at_point; settled = inr here }
  firm_behind c x (checkpoint {j = j} h k e i) r =
      let fixes = fixes_past T c.who j told.well_formed told.rules k in
      let F : Point → Type 0 = λ p. Past T p x in
      let past = subst F e (known_in_past T H c x r) in
      let act = acts T c.who j (Checkpoint c.who) k refl in record {
        not_fallen = λ f. fixes.kept x past (record { place = f.place; held = tt; falls = f.falls; at_point = f.at_point });
        settled = ⊎_elim
            (λ s. inl (record { place = s.place; held = absorbs T H j c.who closed h act s.place s.held; stabilizes = s.stabilizes; at_point = s.at_point }))
            (λ o. inr o) (fixes.settled x past);
      }

  -- firm by the fate
  pub firm_of_fate : (q : Point) → Reached T H logs numbers q → IsFalse (is_not_firm (fate_of logs numbers q)) → FirmIn T H q
  firm_of_fate q r no_wanted = by (fate_of logs numbers q) refl where
    by : (f : Fate) → fate_of logs numbers q ≡ f → FirmIn T H q
    by Stable e = record {
      not_fallen = λ f. absurd (let clash = sym e ∙ (fallen_is q r).1 f in cc);
      settled = inl ((known q r.log r.stands).stable (sym (fate_is q r.log r.stands) ∙ e));
    }
    by Closed e = firm_behind q q (closed_is q r e) (start refl)
    by f e = absurd (let clash = sym (ap is_not_firm e) ∙ no_wanted in cc)

  pub not_firm_of_fate : (q : Point) → Reached T H logs numbers q → IsTrue (is_not_firm (fate_of logs numbers q)) → ¬ FirmIn T H q
  not_firm_of_fate q r wanted firm = by (fate_of logs numbers q) refl where
    h : Timeline
    h = history T q.who (told.numbers_tell q.who r.log r.stands).place

    steps : FatesAreSteps T q (told.numbers_tell q.who r.log r.stands).place
    steps = fates_are_steps T q (told.numbers_tell q.who r.log r.stands).place

    not_open : fate_of logs numbers q ≡ Open → ⊥
    not_open e = ⊎_elim stabilized opened firm.settled where
      other : (f : Fate) → fate h q.interval q.incarnation ≡ f → f ≡ Open
      other f x = sym x ∙ sym (fate_is q r.log r.stands) ∙ e

      stabilized : StabilizedIn T H q → ⊥
      stabilized s =
          let act = acts T q.who s.place (Stabilize q.who) s.stabilizes refl in
          ⊎_elim (λ c. ⊎_elim (λ x. let clash = other Stable (fate_by_row h q.interval q.incarnation Stable x) in cc) (λ x. let clash = other Closed (fate_by_row h q.interval q.incarnation Closed x) in cc) c)
          (λ x. let clash = other Fallen (fate_by_row h q.interval q.incarnation Fallen x) in cc)
          (steps.settled (record { place = s.place; before = ((told.numbers_tell q.who r.log r.stands).bound.steps s.place act).0 s.held; holds = s.stabilizes; at_point = s.at_point }))

      opened : IsOpeningPoint T q → ⊥
      opened o = let clash = other Closed (fate_by_row h q.interval q.incarnation Closed (steps.closed.1 (inl o))) in cc

    by : (f : Fate) → fate_of logs numbers q ≡ f → ⊥
    by Fallen e = firm.not_fallen ((fallen_is q r).0 e)
    by Ahead e = r.not_ahead e
    by Open e = not_open e
    by f e = let clash = sym (ap is_not_firm e) ∙ wanted in cc
