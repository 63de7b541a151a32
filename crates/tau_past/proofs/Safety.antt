-- Each trace that keeps the rules is safe.
use Rattle.std.proofs.Common.{◌≡◌, ◌⊎◌, ℕ, zero, suc, ◌<◌, ◌≤◌, Bool, IsTrue, IsFalse, Some, arith, refl, sym, ◌∙◌, ap, subst, ⊎_elim}
use Rattle.std.proofs.lemmas.Bool.{cases_order}
use Rattle.tau_history.specs.Timeline.{interval, opening}
use Rattle.tau_points.specs.declared.point.Point.{Point}
use Rattle.tau_points.specs.Reach.{start, next}
use Rattle.tau_points.proofs.Reach.{least, monotone, nested}
use Rattle.tau_trace.specs.declared.step.Step.{Step}
use Rattle.tau_trace.specs.declared.step.Step.TheVariants.{Stabilize}
use Rattle.tau_trace.specs.Run.{Run, step_at, starts, ActsAt, Does}
use Rattle.tau_trace.specs.Numbering.{born, sent}
use Rattle.tau_trace.specs.Histories.{history, opened, Falls, Closes, IsFallingStep, by_fall, by_rollback, by_trap, by_fail}
use Rattle.tau_trace.specs.Points.{point_at, Stabilizes, IsOpeningPoint, IsUpTo}
use Rattle.tau_trace.specs.Known.{WellFormed}
use Rattle.tau_trace.proofs.Counted.{history-zero, falls_falling}
use Rattle.tau_trace.proofs.PointLemmas.{points_grow, stable_at, never_stable}
use Rattle.tau_past.specs.Carried.{is_set, TakesBy, by_set, by_new, first_point}
use Rattle.tau_past.specs.Heard.{IsCausallyClosed, earlier, birth, Heard, HeardTogether}
use Rattle.tau_past.specs.Pasts.{ClosesAt, checkpoint, opening as at_opening, Link, takes, closing, PastIn, Is, Everywhere, Past, StabilizedIn, FirmIn}
use Rattle.tau_past.specs.Decisions.{FallsBy, Free}
use Rattle.tau_past.specs.Safety.{RolledBack, Safe, KeepsRules}
use Rattle.tau_past.proofs.Known.{acts_known, hears_known, heard_before, heard_by_before, heard_closed}

clash : (b : Bool) → IsTrue b → IsFalse b → ⊥
clash b t f = cc

-- a start is at interval 1 or more at every place
start_interval : (T : Run) (t k : ℕ) → t < starts T → 1 ≤ interval (history T t k)
start_interval T t k lt =
    let first : history T t 0 ≡ opening = history-zero T t ∙ at_start T t lt in
    from (ap interval first) ((points_grow T t k).grows 0 (omega arith)) where
      at_start : (T : Run) (t : ℕ) → t < starts T → opened T t ≡ opening
      at_start T t lt = search arith

      from : interval (history T t 0) ≡ 1 → IsUpTo (point_at T t 0) (point_at T t k) → 1 ≤ interval (history T t k)
      from e up = ⊎_elim (λ l. omega (arith, e, l)) (λ s. omega (arith, e, s.0)) up

-- no step is made at the opening point of a start, so nothing leads on from it
pub nothing_at_opening : (T : Run) (q : Point) (k : ℕ) → IsOpeningPoint T q → ¬ (q ≡ point_at T q.who k)
nothing_at_opening T q k o e = omega (arith, o.interval_is, ap (λ p. p.interval) e, start_interval T q.who k o.is_start)

pub no_link : (T : Run) (p q : Point) → IsOpeningPoint T p → ¬ Link T Everywhere p q
no_link T p q o (closing {i = i} e c) = omega (arith, e, o.interval_is)
no_link T p q o (takes {j = j} h (by_set {t = t} d e c ne)) =
    let who : p.who ≡ t = ap (λ x. x.who) e in
    nothing_at_opening T p j o (e ∙ ap (λ u. point_at T u j) (sym who))
no_link T p q o (takes {j = j} h (by_new {by = by} {u = u} n e c ne)) =
    omega (arith, o.is_start, ap (λ x. x.who) e, n.made)

-- no Set follows a Stabilize at the same point
set_before : (T : Run) → KeepsRules T → (t j s : ℕ) → Does is_set T t j → Stabilizes T t s → point_at T t j ≡ point_at T t s → j < s
set_before T rules t j s d z e = ⊎_elim same (λ x. ⊎_elim (λ lt. lt) after x) (cases_order j s) where
  same : j ≡ s → j < s
  same k = absurd (set_is_none d.step (d.stands) (ap (λ i. step_at T i) k ∙ z) d.passes) where
    set_is_none : (x : Step) → step_at T j ≡ Some x → step_at T j ≡ Some (Stabilize t) → IsTrue (is_set x) → ⊥
    set_is_none x a b c = let one : x ≡ Stabilize t = cc in clash (is_set x) c (ap is_set one)

  after : s < j → j < s
  after lt =
      let stable : IsTrue (history T t j).stable = (stable_at T t j).1 (record { place = s; before = lt; holds = z; at_point = e }) in
      absurd (clash (history T t j).stable stable (rules.set t j d))

-- a known Stabilize at a point brings all that the point ever takes
brings_takes : (T : Run) → KeepsRules T → (H : ℕ → Type 0) → IsCausallyClosed T H → (j : ℕ) (q r : Point) → StabilizedIn T H q → TakesBy T j q r → H j
brings_takes T rules H c j q r st (by_set {t = t} d e carried ne) = from (subst (StabilizedIn T H) e st) where
  from : StabilizedIn T H (point_at T t j) → H j
  from z = c.closed z.place j z.held (earlier {t = t} (ap_actor z.stabilizes) (acts_of d) (set_before T rules t j z.place d z.stabilizes z.at_point)) where
    ap_actor : Stabilizes T t z.place → ActsAt T t z.place
    ap_actor b = cc

    acts_of : Does is_set T t j → ActsAt T t j
    acts_of b = let is = b.stands in let by = b.by in cc
brings_takes T rules H c j q r st (by_new {by = by} {u = u} n e carried ne) = from (subst (StabilizedIn T H) e st) where
  from : StabilizedIn T H (first_point u) → H j
  from z = c.closed z.place j z.held (birth {u = u} (acts z.stabilizes) n) where
    acts : Stabilizes T u z.place → ActsAt T u z.place
    acts b = cc

-- and the closing point of the interval before
brings_closing : (T : Run) (H : ℕ → Type 0) → IsCausallyClosed T H → (q r : Point) (i : ℕ) → StabilizedIn T H q → q.interval ≡ suc i → ClosesAt T Everywhere q.who i r → ClosesAt T H q.who i r
brings_closing T H c q r i st e (at_opening a b o) = at_opening a b o
brings_closing T H c q r i st e (checkpoint {j = j} h k a b) =
    checkpoint (c.closed st.place j st.held (earlier {t = q.who} (acts st.stabilizes) (closes_acts k) before)) k a b where
      acts : Stabilizes T q.who st.place → ActsAt T q.who st.place
      acts z = cc

      closes_acts : Closes T q.who j → ActsAt T q.who j
      closes_acts z = cc

      at_place : interval (history T q.who st.place) ≡ suc i
      at_place = sym (ap (λ x. x.interval) st.at_point) ∙ e

      at_close : interval (history T q.who j) ≡ i
      at_close = sym (ap (λ x. x.interval) a) ∙ b

      before : j < st.place
      before = ⊎_elim (λ s. absurd (equal s)) (λ x. ⊎_elim (λ lt. lt) (λ lt. absurd (later lt)) x) (cases_order j st.place) where
        equal : j ≡ st.place → ⊥
        equal s = omega (arith, at_place, at_close, ap (λ n. interval (history T q.who n)) s)

        later : st.place < j → ⊥
        later lt = ⊎_elim (λ l. omega (arith, at_place, at_close, l)) (λ s. omega (arith, at_place, at_close, s.0)) ((points_grow T q.who j).grows st.place (omega (arith, lt)))

-- where every point of a known past is known firm, it is the whole past
pub whole_past : (T : Run) → KeepsRules T → (H : ℕ → Type 0) → IsCausallyClosed T H → (p : Point) → ((x : Point) → PastIn T H (Is p) x → FirmIn T H x) → (x : Point) → Past T p x → PastIn T H (Is p) x
whole_past T rules H c p firm =
    least (Link T Everywhere) (Is p) (PastIn T H (Is p)) (record { starts = λ x e. start e; follows = λ x y r l. next r (known x y (firm x r) l) }) where
      known : (x y : Point) → FirmIn T H x → Link T Everywhere x y → Link T H x y
      known x y f l = ⊎_elim (λ s. settled s l) (λ o. absurd (no_link T x y o l)) f.settled where
        settled : StabilizedIn T H x → Link T Everywhere x y → Link T H x y
        settled s (takes {j = j} h t) = takes (brings_takes T rules H c j x y s t) t
        settled s (closing {i = i} e k) = closing e (brings_closing T H c x y i s e k)

-- a rolled-back point in the past of p at which no Stabilize is made
record Root (T : Run) (p : Point) : Type 0 where
  root : Point
  in_past : Past T p root
  rolled_back : RolledBack T root
  never : ¬ StabilizedIn T Everywhere root

pub known_in_past : (T : Run) (H : ℕ → Type 0) (p x : Point) → PastIn T H (Is p) x → Past T p x
known_in_past T H p = monotone (Link T H) (Link T Everywhere) (Is p) (Is p) links (λ x e. e) where
  links : (x y : Point) → Link T H x y → Link T Everywhere x y
  links x y (takes h t) = takes tt t
  links x y (closing e (checkpoint h k a b)) = closing e (checkpoint tt k a b)
  links x y (closing e (at_opening a b o)) = closing e (at_opening a b o)

-- pasts nest
past_of_past : (T : Run) (p q x : Point) → Past T p q → Past T q x → Past T p x
past_of_past T p q x r = nested (Link T Everywhere) (Is p) (Is q) (λ z e. subst (Past T p) (sym e) r) x

root_further : (T : Run) (p q : Point) → Past T p q → Root T q → Root T p
root_further T p q r z = record { root = z.root; in_past = past_of_past T p q z.root r z.in_past; rolled_back = z.rolled_back; never = z.never }

-- a point from which a volatile transactor falls is its own root
own_root : (T : Run) (t k : ℕ) → Falls T t k → IsFalse (history T t k).stable → Root T (point_at T t k)
own_root T t k f v = record {
  root = point_at T t k;
  in_past = start refl;
  rolled_back = record { place = k; held = tt; falls = f; at_point = refl };
  never = λ z. never_stable T t k z.place f v z.stabilizes (sym z.at_point);
}

-- each rolled-back point has a root
root_of : (T : Run) → WellFormed T → KeepsRules T → (n k t : ℕ) → k < n → Falls T t k → Root T (point_at T t k)
root_of T w rules zero k t lt f = absurd (omega (arith, lt))
root_of T w rules (suc n) k t lt f = by_case (falls_falling T t k f) (λ j u l g. root_of T w rules n j u (omega (arith, l, lt)) g) where
  by_case : IsFallingStep T t k → ((j u : ℕ) → j < k → Falls T u j → Root T (point_at T u j)) → Root T (point_at T t k)
  by_case (by_rollback e) here = own_root T t k f (rules.rollback t k e)
  by_case (by_trap e v) here = own_root T t k f v
  by_case (by_fail e v) here = own_root T t k f v
  by_case (by_fall {m = m} e) here = from (rules.fall t k m e) where
    exists : t < born T k
    exists = acts_known T t k w acts where
      acts : ActsAt T t k
      acts = cc

    there : m < sent T k
    there = hears_known T m k w cc

    before : (j : ℕ) → HeardTogether T t k m j → j < k
    before j h = ⊎_elim (heard_before T t k j w exists) (heard_by_before T m k j w there) h

    from : FallsBy T t k m → Root T (point_at T t k)
    from b =
        let at = here b.fallen.place b.cause.who (before b.fallen.place b.fallen.held) b.fallen.falls in
        root_further T (point_at T t k) b.cause (known_in_past T (HeardTogether T t k m) (point_at T t k) b.cause b.in_past) (subst (Root T) (sym b.fallen.at_point) at)

-- a trace that keeps the rules is safe
pub safety : (T : Run) → WellFormed T → KeepsRules T → Safe T
safety T w rules t c q closes past back = from (root_of T w rules (suc back.place) back.place q.who (omega arith) back.falls) where
  p : Point
  p = point_at T t c

  firm : Free T t c
  firm = rules.checkpoint t c closes

  from : Root T (point_at T q.who back.place) → ⊥
  from here = unsettled (firm z.root known).settled where
    z : Root T q
    z = subst (Root T) (sym back.at_point) here

    known : PastIn T (Heard T t c) (Is p) z.root
    known = whole_past T rules (Heard T t c) (heard_closed T t c) p firm z.root (past_of_past T p q z.root past z.in_past)

    unsettled : StabilizedIn T (Heard T t c) z.root ⊎ IsOpeningPoint T z.root → ⊥
    unsettled s = ⊎_elim
        (λ x. z.never (record { place = x.place; held = tt; stabilizes = x.stabilizes; at_point = x.at_point }))
        (λ o. nothing_at_opening T z.root z.rolled_back.place o z.rolled_back.at_point)
        s
