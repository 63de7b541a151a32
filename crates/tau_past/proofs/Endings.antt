-- What the histories after the trace tell of points: which are rolled back, and which are closing points.
use Rattle.std.proofs.Common.{◌≡◌, ◌⊎◌, ◌↔◌, inl, inr, ⊎_elim, ℕ, suc, ◌-◌, ◌<◌, ◌≤◌, Bool, true, false, cond, IsTrue, Option, Some, None, length, get_or, refl, sym, ap, ◌∙◌, subst, arith, eqb-true, eq-eqb, ltb-true, lt-ltb}
use Rattle.std.specs.Prelude.{option_map, slice_get, ◌||◌, ◌==◌, nat_lt}
use Rattle.std.proofs.lemmas.Option.{slice_get_within, slice_get_read, get_or_from_slice_get}
use Rattle.std.proofs.lemmas.List.{get_or_default}
use Rattle.tau_history.specs.Timeline.{Timeline, interval, numbers, fall}
use Rattle.tau_history.specs.Fates.{IsFallen, IsClosed}
use Rattle.tau_history.specs.declared.fate.Fate.{Fate}
use Rattle.tau_history.specs.declared.fate.Fate.TheVariants.{Fallen}
use Rattle.tau_history.specs.Fates.{fate}
use Rattle.tau_history.proofs.Table.{length-numbers, by_table}
use Rattle.tau_points.specs.declared.point.Point.{Point}
use Rattle.tau_trace.specs.declared.step.Step.TheVariants.{Checkpoint}
use Rattle.tau_trace.specs.Run.{Run, len, step_at, ActsAt}
use Rattle.tau_trace.specs.Histories.{history, Falls, Closes}
use Rattle.tau_trace.specs.Points.{point_at}
use Rattle.tau_trace.specs.Known.{WellFormed}
use Rattle.tau_trace.specs.Laws.{FatesAreSteps}
use Rattle.tau_trace.proofs.Agreement.{born-grows}
use Rattle.tau_trace.proofs.Moves.{own_move}
use Rattle.tau_trace.proofs.PointLemmas.{fates_are_steps}
use Rattle.tau_trace.proofs.Quiet.{acts}
use Rattle.tau_past.specs.Pasts.{ClosesAt, checkpoint, opening, Everywhere}
use Rattle.tau_past.specs.Safety.{RolledBack}
use Rattle.tau_past.specs.Tables.{ClosesBefore, all_born}
use Rattle.tau_past.specs.TableSteps.{closing_in}
use Rattle.tau_past.proofs.Known.{acts_known}

pub falls_within : (T : Run) (t k : ℕ) → Falls T t k → (k < len T) × ActsAt T t k
falls_within T t k f =
    let own = own_move t (history T t k).stable (step_at T k) fall (λ e. cc) f in
    (slice_get_within T.steps k own.step own.stands, acts T t k own.step own.stands own.by)

pub rolled_back_iff : (T : Run) (q : Point) → RolledBack T q ↔ IsFallen (history T q.who (len T)) q.interval q.incarnation
rolled_back_iff T q =
    let fates = fates_are_steps T q (len T) in (
      λ r. fates.fallen.1 (record { place = r.place; before = (falls_within T q.who r.place r.falls).0; holds = r.falls; at_point = r.at_point }),
      λ f. let m = fates.fallen.0 f in record { place = m.place; held = tt; falls = m.holds; at_point = m.at_point },
    )

-- points of transactors that never exist are not rolled back
pub unknown_not_rolled_back : (T : Run) (q : Point) → WellFormed T → all_born T ≤ q.who → ¬ RolledBack T q
unknown_not_rolled_back T q w le r =
    let within = falls_within T q.who r.place r.falls in
    omega (arith, acts_known T q.who r.place w within.1, born-grows T r.place (len T) (omega (arith, within.0)), le)

-- and have no closing points
pub unknown_not_closed : (T : Run) (p q : Point) → WellFormed T → all_born T ≤ p.who → ¬ ClosesBefore T p q
unknown_not_closed T p q w le c = by c.2 where
  by : ClosesAt T Everywhere p.who c.0 q → ⊥
  by (checkpoint {j = j} h k at i) =
      let a : ActsAt T p.who j = acts T p.who j (Checkpoint p.who) k refl in
      omega (arith, acts_known T p.who j w a, slice_get_within T.steps j (Checkpoint p.who) k, born-grows T j (len T) (omega (arith, slice_get_within T.steps j (Checkpoint p.who) k)), le)
  by (opening e z o) = omega (arith, o.is_start, e, le, born-grows T 0 (len T) (omega arith))

-- the closing point of the interval before p's, by the history of its transactor
record IsBefore (h : Timeline) (p q : Point) : Type 0 where
  who_is : q.who ≡ p.who
  interval_is : p.interval ≡ suc q.interval
  closed : IsClosed h q.interval q.incarnation

found : (h : Timeline) (p q : Point) → IsBefore h p q → closing_in h p ≡ Some q
found h p q b = by (p.interval == 0) (nat_lt (interval h) p.interval) refl refl where
  last : ℕ
  last = p.interval - 1

  same : last ≡ q.interval
  same = omega (arith, b.interval_is)

  number : slice_get (numbers h) last ≡ Some q.incarnation
  number =
      let read : q.incarnation ≡ get_or (numbers h) last q.incarnation = rest in
      slice_get_read (numbers h) (length (numbers h)) last q.incarnation refl (omega (arith, length-numbers h, b.closed.below, same)) read where
        rest : q.incarnation ≡ get_or (numbers h) last q.incarnation
        rest = b.closed.number ∙ ap (λ i. get_or (numbers h) i 0) (sym same) ∙ get_or_default (numbers h) last 0 q.incarnation (omega (arith, length-numbers h, b.closed.below, same))

  by : (x y : Bool) → (p.interval == 0) ≡ x → nat_lt (interval h) p.interval ≡ y → cond (x || y) None (option_map (λ n. record { who = p.who; interval = last; incarnation = n }) (slice_get (numbers h) last)) ≡ Some q
  by true y e f = absurd (omega (arith, eqb-true p.interval 0 e, b.interval_is))
  by false true e f = absurd (omega (arith, ltb-true (interval h) p.interval f, b.interval_is, b.closed.below))
  by false false e f = ap (option_map (λ n. record { who = p.who; interval = last; incarnation = n })) number ∙ ap (λ (x : Point). Some x) (λ i. record { who = sym b.who_is i; interval = same i; incarnation = q.incarnation })

some_same : {x y : Point} → Some x ≡ Some y → x ≡ y
some_same f = cc

is_found : (h : Timeline) (p q : Point) → closing_in h p ≡ Some q → IsBefore h p q
is_found h p q e = by (p.interval == 0) (nat_lt (interval h) p.interval) (slice_get (numbers h) last) refl refl refl e where
  last : ℕ
  last = p.interval - 1

  by : (x y : Bool) (o : Option ℕ) → (p.interval == 0) ≡ x → nat_lt (interval h) p.interval ≡ y → slice_get (numbers h) last ≡ o → cond (x || y) None (option_map (λ n. record { who = p.who; interval = last; incarnation = n }) o) ≡ Some q → IsBefore h p q
  by true y o f g n z = absurd (cc)
  by false true o f g n z = absurd (cc)
  by false false None f g n z = absurd (cc)
  by false false (Some m) f g n z =
      let same : record { who = p.who; interval = last; incarnation = m } ≡ q = some_same z in
      let low : interval h < p.interval → ⊥ = λ l. let yes_less = lt-ltb (interval h) p.interval l in cc in
      let above : p.interval ≡ 0 → ⊥ = λ l. let yes_zero = eq-eqb p.interval 0 l in cc in
      let at : suc last ≡ p.interval = omega (arith, above) in
      record {
        who_is = sym (ap (λ x. x.who) same);
        interval_is = sym at ∙ ap (λ x. suc x.interval) same;
        closed = subst (λ (x : Point). IsClosed h x.interval x.incarnation) same (record { below = omega (arith, low, at); number = sym (get_or_from_slice_get (numbers h) last m 0 n) });
      }

pub closing_iff : (T : Run) (p q : Point) → ClosesBefore T p q ↔ (closing_in (history T p.who (len T)) p ≡ Some q)
closing_iff T p q = (forth, back) where
  fates : FatesAreSteps T q (len T)
  fates = fates_are_steps T q (len T)

  before : (i : ℕ) → p.interval ≡ suc i → q.who ≡ p.who → q.interval ≡ i → IsClosed (history T q.who (len T)) q.interval q.incarnation → closing_in (history T p.who (len T)) p ≡ Some q
  before i e who at c = found (history T p.who (len T)) p q (record {
    who_is = who;
    interval_is = e ∙ ap suc (sym at);
    closed = subst (λ t. IsClosed (history T t (len T)) q.interval q.incarnation) who c;
  })

  forth : ClosesBefore T p q → closing_in (history T p.who (len T)) p ≡ Some q
  forth c = by c.2 where
    by : ClosesAt T Everywhere p.who c.0 q → closing_in (history T p.who (len T)) p ≡ Some q
    by (checkpoint {j = j} h k at i) =
        let who : q.who ≡ p.who = ap (λ x. x.who) at in
        before c.0 c.1 who i (fates.closed.1 (inr (record {
          place = j;
          before = slice_get_within T.steps j (Checkpoint p.who) k;
          holds = subst (λ t. Closes T t j) (sym who) k;
          at_point = at ∙ ap (λ t. point_at T t j) (sym who);
        })))
    by (opening e z o) = before c.0 c.1 e (o.interval_is ∙ sym z) (fates.closed.1 (inl o))

  back : closing_in (history T p.who (len T)) p ≡ Some q → ClosesBefore T p q
  back e =
      let b = is_found (history T p.who (len T)) p q e in
      let c = fates.closed.0 (subst (λ t. IsClosed (history T t (len T)) q.interval q.incarnation) (sym b.who_is) b.closed) in (
        q.interval,
        b.interval_is,
        ⊎_elim
            (λ o. opening b.who_is o.interval_is o)
            (λ m. checkpoint {j = m.place} tt (subst (λ t. Closes T t m.place) b.who_is m.holds) (m.at_point ∙ ap (λ t. point_at T t m.place) b.who_is) refl)
            c,
      )

-- as the calls of the index have them

pub rolled_back_told : (T : Run) (q : Point) (h : Timeline) (f : Fate) (b : Bool) → h ≡ history T q.who (len T) → f ≡ fate h q.interval q.incarnation → IsTrue b ↔ (f ≡ Fallen) → IsTrue b ↔ RolledBack T q
rolled_back_told T q h f b at is test =
    let iff = rolled_back_iff T q in
    let table = by_table h q.interval q.incarnation Fallen in (
      λ t. iff.1 (subst (λ x. IsFallen x q.interval q.incarnation) at (table.0 (sym is ∙ test.0 t))),
      λ r. test.1 (is ∙ table.1 (subst (λ x. IsFallen x q.interval q.incarnation) (sym at) (iff.0 r))),
    )

pub closing_told : (T : Run) (p q : Point) (h : Timeline) (o : Option Point) → h ≡ history T p.who (len T) → o ≡ closing_in h p → ClosesBefore T p q ↔ (o ≡ Some q)
closing_told T p q h o at is =
    let iff = closing_iff T p q in (
      λ c. is ∙ ap (λ x. closing_in x p) at ∙ iff.0 c,
      λ e. iff.1 (sym (ap (λ x. closing_in x p) at) ∙ sym is ∙ e),
    )
