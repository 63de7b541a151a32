-- The last versions tell what is known by all steps so far.
use Rattle.std.proofs.Common.{◌≡◌, ◌≢◌, ◌⊎◌, inl, inr, ⊎_elim, ℕ, ◌-◌, ◌<◌, ◌≤◌, Bool, true, false, IsTrue, List, [], Option, Some, None, length, refl, sym, ap, ◌∙◌, subst, arith}
use Rattle.std.specs.Prelude.{slice_get, Contains}
use Rattle.std.specs.Option.{option_map_or}
use Rattle.std.proofs.lemmas.Bool.{cases_Bool}
use Rattle.std.proofs.lemmas.Option.{slice_get_within, slice_get_cases}
use Rattle.tau_value.specs.declared.limits.TheConstants.{STEP_LIMIT}
use Rattle.tau_history.specs.Fates.{fate, IsOwn}
use Rattle.tau_history.specs.declared.fate.Fate.{Fate}
use Rattle.tau_history.specs.declared.fate.Fate.TheVariants.{Ahead, Open, Stable, Closed}
use Rattle.tau_history.proofs.Table.{has_row, fate-stable, fate-open}
use Rattle.tau_points.specs.declared.point.Point.{Point}
use Rattle.tau_points.proofs.Membership.{Contains-none}
use Rattle.tau_trace.specs.Run.{Run}
use Rattle.tau_trace.specs.Numbering.{born}
use Rattle.tau_trace.specs.Histories.{history}
use Rattle.tau_trace.specs.Points.{point_at}
use Rattle.tau_trace.specs.Known.{WellFormed}
use Rattle.tau_trace.proofs.Agreement.{new_before}
use Rattle.tau_trace.proofs.Lists.{same_some}
use Rattle.tau_past.specs.Carried.{TakesBy}
use Rattle.tau_past.specs.Heard.{Own, own_step, own_birth, Heard, HoldsStepsBefore, Bound}
use Rattle.tau_past.proofs.BoundLemmas.{has_bounds}
use Rattle.tau_versions.specs.declared.logs.version.Version.{Version}
use Rattle.tau_versions.specs.Logs.Versions.{IsLatest}
use Rattle.tau_versions.specs.Logs.Told.{Told}
use Rattle.tau_versions.specs.Logs.Takes.{taken, ClosedIn, TellsTaken}
use Rattle.tau_versions.specs.Logs.Reading.{fate_told, takes_told}
use Rattle.tau_versions.proofs.Known.{fates_at_bounds_tell_the_known}
use Rattle.tau_versions.proofs.ByNumber.{fate_told_is, takes_told_are}
use Rattle.tau_versions.specs.Search.Logs.{TellsLog, TellsBound, TellBounds}
use Rattle.tau_versions.specs.Search.Searching.{fate_of, takes_of, goes_on}
use Rattle.tau_heard.specs.declared.own.Own.{Own as Kept}
use Rattle.tau_heard.specs.declared.letter.Letter.{Letter}
use Rattle.tau_heard.specs.Bounds.{last_number}
use Rattle.tau_heard.specs.Hears.{Hears}
use Rattle.tau_heard.proofs.Bounds.{last_tells}
use Rattle.tau_heard.proofs.Decisions.{few_numbers}
use Rattle.tau_verdicts.specs.Clean.{Before}
use Rattle.tau_verdicts.specs.Latest.{latest}
use Rattle.tau_verdicts.specs.Spreading.{IsLeft}

bound_before : (T : Run) (n u a : ℕ) → HoldsStepsBefore T (Heard T u n) u n → Bound T (Heard T u n) u a → Bound T (Before n) u a
bound_before T n u a own b = record {
  steps = λ j acts. (λ lt. (b.steps j acts).0 ((own j acts).1 lt), λ lt. (own j acts).0 ((b.steps j acts).1 lt));
  last = ⊎_elim (λ e. inl e) (λ s. inr (s.0, s.1, s.2, (own s.0 s.2).0 s.3)) b.last;
}

goes_cases : (f : Fate) → IsTrue (goes_on f) → (f ≡ Open) ⊎ (f ≡ Stable)
goes_cases Open e = inl refl
goes_cases Stable e = inr refl
goes_cases f e = absurd (cc)

module _ (T : Run) (n : ℕ) (logs : List Told) (own : List Kept) (letters : List (Option Letter)) (falls : ℕ) (hears : Hears T n logs own letters falls) (w : WellFormed T) (few : n ≤ STEP_LIMIT) where
  latest_is : (u : ℕ) → latest logs u ≡ last_number logs u
  latest_is u = omega (arith, few_numbers T n logs u hears.logs_are, few)

  own_there : (u : ℕ) → u < born T n → (x : Kept) × (slice_get own u ≡ Some x)
  own_there u lt = ⊎_elim (λ s. (s.0, s.2)) (λ p. absurd (omega (arith, p.0, hears.transactors, lt))) (slice_get_cases own u).1

  log_born : (u : ℕ) (log : Told) → slice_get logs u ≡ Some log → u < born T n
  log_born u log e = omega (arith, slice_get_within logs u log e, hears.logs_are.count)

  tell : TellBounds T (Before n) n logs (latest logs)
  tell u log e =
      let lt = log_born u log e in
      let x = own_there u lt in
      let number = (hears.each u x.0 x.1).heard.own in
      let F : Told → Type 0 = λ l. TellsBound T (Heard T u n) n u l (last_number logs u) in
      let b = subst F (same_some (sym number.stands ∙ e)) number.tells in
      let G : ℕ → Type 0 = λ i. IsLatest log.versions b.place i b.version in
      record { place = b.place; within = b.within; bound = bound_before T n u b.place ((has_bounds T n w).own u lt) b.bound; version = b.version; latest = subst G (sym (latest_is u)) b.latest }

  -- a point that is Closed by the last versions is closed
  pub closed_told : (q : Point) → fate_of logs (latest logs) q ≡ Closed → ClosedIn T (Before n) q
  closed_told q e = by (slice_get logs q.who) refl where
    F : Option Told → Fate
    F = λ o. option_map_or (λ (l : Told). fate_told l (latest logs q.who) q.interval q.incarnation) o Ahead

    by : (o : Option Told) → slice_get logs q.who ≡ o → ClosedIn T (Before n) q
    by None s = absurd (let clash : Ahead ≡ Closed = sym (ap F s) ∙ e in cc)
    by (Some log) s =
        let b = tell q.who log s in
        let told = fate_told_is T q.who n b.place (latest logs q.who) q.interval q.incarnation log b.version (hears.logs_are.each q.who log s).histories b.within b.latest in
        (fates_at_bounds_tell_the_known (Before n) T q b.place b.bound).closed.0 (sym told ∙ sym (ap F s) ∙ e)

  -- the last version of a log is that at place n
  last_is : (u : ℕ) (log : Told) → slice_get logs u ≡ Some log → (v : Version) × IsLatest log.versions n (latest logs u) v
  last_is u log e =
      let x = (hears.logs_are.each u log e).opens in
      let some : (v : Version) × (slice_get log.versions (length log.versions - 1) ≡ Some v) = ⊎_elim (λ s. (s.0, s.2)) (λ p. absurd (omega (arith, p.0, slice_get_within log.versions 0 x.0 x.1.stands))) (slice_get_cases log.versions (length log.versions - 1)).1 in
      let here = (last_tells T u n log some.0 (hears.logs_are.each u log e).histories some.1).latest in
      let F : Option Told → ℕ = λ o. option_map_or (λ (l : Told). length l.versions - 1) o 0 in
      let G : ℕ → Type 0 = λ i. IsLatest log.versions n i some.0 in
      (some.0, subst G (sym (latest_is u ∙ ap F e)) here)

  fate_is : (q : Point) (log : Told) → slice_get logs q.who ≡ Some log → fate_of logs (latest logs) q ≡ fate (history T q.who n) q.interval q.incarnation
  fate_is q log e =
      let v = last_is q.who log e in
      let F : Option Told → Fate = λ o. option_map_or (λ (l : Told). fate_told l (latest logs q.who) q.interval q.incarnation) o Ahead in
      ap F e ∙ fate_told_is T q.who n n (latest logs q.who) q.interval q.incarnation log v.0 (hears.logs_are.each q.who log e).histories (omega arith) v.1

  -- one that is Open or Stable is the present point of its transactor
  pub present_told : (q : Point) → IsTrue (goes_on (fate_of logs (latest logs) q)) → q ≡ point_at T q.who n
  present_told q g = by (slice_get logs q.who) refl where
    F : Option Told → Bool
    F = λ o. goes_on (option_map_or (λ (l : Told). fate_told l (latest logs q.who) q.interval q.incarnation) o Ahead)

    by : (o : Option Told) → slice_get logs q.who ≡ o → q ≡ point_at T q.who n
    by None e = absurd (let clash : false ≡ true = sym (ap F e) ∙ g in cc)
    by (Some log) e =
        let h = history T q.who n in
        ⊎_elim
        (λ f. let o = (has_row h q.interval q.incarnation Open (sym (fate_is q log e) ∙ f)).own in λ i. record { who = q.who; interval = o.interval_is i; incarnation = o.incarnation_is i })
        (λ f. let o = (has_row h q.interval q.incarnation Stable (sym (fate_is q log e) ∙ f)).own in λ i. record { who = q.who; interval = o.interval_is i; incarnation = o.incarnation_is i })
        (goes_cases (fate_of logs (latest logs) q) g)

  -- and one that is left is not
  pub left_told : (q : Point) → IsLeft logs q → q ≢ point_at T q.who n
  left_told q left e = let s = there in let clash : true ≡ false = sym (goes s.0 s.1) ∙ left.stops in absurd (cc) where
    there : (log : Told) × (slice_get logs q.who ≡ Some log)
    there = ⊎_elim (λ s. (s.0, s.2)) (λ p. absurd (omega (arith, p.0, left.exists))) (slice_get_cases logs q.who).1

    goes : (log : Told) → slice_get logs q.who ≡ Some log → IsTrue (goes_on (fate_of logs (latest logs) q))
    goes log s =
        let h = history T q.who n in
        let own : IsOwn h q.interval q.incarnation = record { interval_is = ap (λ p. p.interval) e; incarnation_is = ap (λ p. p.incarnation) e } in
        ⊎_elim
        (λ m. ap goes_on (fate_is q log s ∙ fate-stable h q.interval q.incarnation (record { own = own; mode = m })))
        (λ m. ap goes_on (fate_is q log s ∙ fate-open h q.interval q.incarnation (record { own = own; mode = m })))
        (cases_Bool h.stable)

  -- what the takes of the present point say it took before
  pub taken_told : (t : ℕ) (q : Point) → Contains (takes_of logs (latest logs) t) q → (i : ℕ) × (i < n) × TakesBy T i (point_at T t n) q
  taken_told t q c = by (slice_get logs t) refl where
    F : Option Told → List Point
    F = λ o. option_map_or (λ (l : Told). takes_told l (latest logs t)) o []

    G : List Point → Type 0
    G = λ ps. Contains ps q

    before : (log : Told) → slice_get logs t ≡ Some log → (j : ℕ) → Own T t n j → j < n
    before log e j (own_step a lt) = lt
    before log e j (own_birth {by = by} b) = new_before T j by t n b (log_born t log e)

    by : (o : Option Told) → slice_get logs t ≡ o → (i : ℕ) × (i < n) × TakesBy T i (point_at T t n) q
    by None e = absurd (Contains-none q (subst G (ap F e) c))
    by (Some log) e =
        let v = last_is t log e in
        let tells : TellsTaken T t n (taken log.takes v.0) = (hears.logs_are.each t log e).takes.told n (latest logs t) v.0 (omega arith) v.1 in
        let took = tells.took q (subst G (ap F e ∙ takes_told_are n (latest logs t) log v.0 v.1) c) in (took.0, before log e took.0 took.1, took.2)

-- the last version of a log tells whether its transactor is stable
pub stable_told : (T : Run) (n t : ℕ) (logs : List Told) (own : List Kept) (letters : List (Option Letter)) (falls : ℕ) → Hears T n logs own letters falls → (log : Told) → slice_get logs t ≡ Some log → (b : Bool)
    → ((v : Version) → slice_get log.versions (length log.versions - 1) ≡ Some v → b ≡ v.stable) → b ≡ (history T t n).stable
stable_told T n t logs own letters falls hears log e b is = is some.0 some.1 ∙ (last_tells T t n log some.0 x.histories some.1).tells.stable_is where
  x : TellsLog T t n log
  x = hears.logs_are.each t log e

  some : (v : Version) × (slice_get log.versions (length log.versions - 1) ≡ Some v)
  some = ⊎_elim (λ s. (s.0, s.2)) (λ p. absurd (omega (arith, p.0, slice_get_within log.versions 0 x.opens.0 x.opens.1.stands))) (slice_get_cases log.versions (length log.versions - 1)).1

pub none_exists : (T : Run) (n t : ℕ) (logs : List Told) (own : List Kept) (letters : List (Option Letter)) (falls : ℕ) → Hears T n logs own letters falls → slice_get logs t ≡ None → ¬ (t < born T n)
none_exists T n t logs own letters falls hears e lt = ⊎_elim (λ s. let clash : None ≡ Some s.0 = sym e ∙ s.2 in cc) (λ p. omega (arith, p.0, hears.logs_are.count, lt)) (slice_get_cases logs t).1
