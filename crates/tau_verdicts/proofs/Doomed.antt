-- What is noted of present points stays right by each step, and who isn't doomed is clean.
use Rattle.std.proofs.Common.{◌≡◌, ◌≢◌, ◌⊎◌, inl, inr, ⊎_elim, ℕ, zero, suc, ◌<◌, ◌≤◌, Bool, true, false, IsTrue, List, [], Option, Some, None, refl, sym, ap, ◌∙◌, subst, arith}
use Rattle.std.specs.Prelude.{Contains, IsFalse, if◌then◌else◌}
use Rattle.std.proofs.lemmas.Bool.{cases_lt, cases_eq, eq-eqb, ne_eqb}
use Rattle.tau_points.specs.declared.point.Point.{Point}
use Rattle.tau_points.specs.Reach.{Reach, start, next}
use Rattle.tau_points.proofs.Membership.{Contains-none}
use Rattle.tau_points.proofs.PointOrder.{point_eq, point_eq-Decides}
use Rattle.tau_points.proofs.Reach.{least, monotone, nested}
use Rattle.tau_trace.specs.Run.{Run, Does}
use Rattle.tau_trace.specs.Steps.{actor, ends_turn}
use Rattle.tau_trace.specs.Histories.{Falls, Closes}
use Rattle.tau_trace.specs.Known.{WellFormed}
use Rattle.tau_trace.specs.Numbering.{born}
use Rattle.tau_trace.specs.Points.{point_at, Leaves, IsUpTo, IsEarlier}
use Rattle.tau_trace.proofs.Agreement.{born-grows}
use Rattle.tau_trace.proofs.Lists.{same_some}
use Rattle.tau_trace.proofs.PointLemmas.{points_grow, no_return}
use Rattle.tau_past.specs.Carried.{TakesBy, by_set, by_new, first_point}
use Rattle.tau_past.specs.Pasts.{checkpoint, Link, takes, closing, PastIn, Is}
use Rattle.tau_past.specs.Safety.{KeepsRules}
use Rattle.tau_versions.specs.Logs.Takes.{ClosedIn, Covered, is_listed, is_closed, through}
use Rattle.tau_heard.proofs.LeavingOut.{closed_on}
use Rattle.tau_heard.proofs.Turns.{leaves_ends}
use Rattle.tau_verdicts.specs.Clean.{Before, IsClean}
use Rattle.tau_verdicts.specs.Doomed.{IsBehind, IsNoted, IsAccounted, AreNoted, cleared}
use Rattle.tau_verdicts.specs.Noting.{AreAdded}
use Rattle.tau_verdicts.proofs.Cleanness.{link_on, closing_is_closed, behind_closed}

-- Points of one transactor.

up_then : (a b c : Point) → IsUpTo a b → IsUpTo b c → IsUpTo a c
up_then a b c (inl x) (inl y) = inl (omega (arith, x, y))
up_then a b c (inl x) (inr y) = inl (omega (arith, x, y.0))
up_then a b c (inr x) (inl y) = inl (omega (arith, x.0, y))
up_then a b c (inr x) (inr y) = inr (x.0 ∙ y.0, omega (arith, x.1, y.1))

-- what is up to a point isn't a later one
not_up : (a b c : Point) → IsUpTo a b → IsEarlier b c → a ≡ c → ⊥
not_up a b c (inl x) (inl y) e = omega (arith, x, y, ap (λ p. p.interval) e)
not_up a b c (inl x) (inr y) e = omega (arith, x, y.0, ap (λ p. p.interval) e)
not_up a b c (inr x) (inl y) e = omega (arith, x.0, y, ap (λ p. p.interval) e)
not_up a b c (inr x) (inr y) e = omega (arith, x.0, x.1, y.0, y.1, ap (λ p. p.interval) e, ap (λ p. p.incarnation) e)

-- the first point is up to each
pub first_up : (u : ℕ) (p : Point) → IsUpTo (first_point u) p
first_up u p = by p.interval refl where
  by : (i : ℕ) → p.interval ≡ i → IsUpTo (first_point u) p
  by zero e = inr (sym e, omega arith)
  by (suc i) e = inl (omega (arith, e))

pub point_cases : (p q : Point) → (p ≡ q) ⊎ (p ≢ q)
point_cases p q = by (point_eq p q) refl where
  by : (b : Bool) → point_eq p q ≡ b → (p ≡ q) ⊎ (p ≢ q)
  by true e = inl ((point_eq-Decides p q).0 e)
  by false e = inr (λ h. let f : point_eq p q ≡ true = (point_eq-Decides p q).1 h in absurd (cc))

-- Tests.

false_unless : (b : Bool) → (b ≡ true → ⊥) → b ≡ false
false_unless true f = absurd (f refl)
false_unless false f = refl

apart : (b : Bool) → b ≡ true → b ≡ false → ⊥
apart b e f = let clash : true ≡ false = sym e ∙ f in cc

-- What is accounted for.

module _ (T : Run) (n : ℕ) (D : ℕ → Bool) (K : ℕ → List Point) (spread : (u : ℕ) (p : Point) → IsTrue (D u) → Contains (K u) p → p ≡ point_at T p.who n → IsTrue (D p.who)) where
  -- what is reached along takes that are noted, from one that isn't doomed, is the present point of one that isn't
  pub reached_sound : (t : ℕ) → IsFalse (D t) → (q : Point) → Reach (IsNoted T n K) (Is (point_at T t n)) q → (q ≡ point_at T q.who n) × IsFalse (D q.who)
  reached_sound t f = least (IsNoted T n K) (Is (point_at T t n)) (λ q. (q ≡ point_at T q.who n) × IsFalse (D q.who)) (record {
    starts = λ q e. begins q (sym e);
    follows = λ p q h l. (l.present, false_unless (D q.who) (λ d. apart (D p.who) (spread q.who p d l.listed h.0) h.1));
  }) where
    begins : (q : Point) → point_at T t n ≡ q → (q ≡ point_at T q.who n) × IsFalse (D q.who)
    begins q e = let F : Point → Type 0 = λ p. (p ≡ point_at T p.who n) × IsFalse (D p.who) in subst F e (refl, f)

  -- what a point that is accounted for has taken is, where that is so of present points
  pub onward : (t : ℕ) → IsFalse (D t) → (p q : Point) (j : ℕ) → j < n → ((u : ℕ) → IsFalse (D u) → TakesBy T j (point_at T u n) q → IsAccounted T n K (point_at T u n) q) → TakesBy T j p q
      → IsAccounted T n K (point_at T t n) p → IsAccounted T n K (point_at T t n) q
  onward t f p q j lt present b (inl h) = inl (record { closed = h.closed; is_closed = h.is_closed; in_past = next h.in_past (takes lt b) })
  onward t f p q j lt present b (inr r) = by (present p.who s.1 (subst F s.0 b)) where
    s : (p ≡ point_at T p.who n) × IsFalse (D p.who)
    s = reached_sound t f p r

    F : Point → Type 0
    F = λ y. TakesBy T j y q

    by : IsAccounted T n K (point_at T p.who n) q → IsAccounted T n K (point_at T t n) q
    by (inl h) = inl h
    by (inr o) = inr (nested (IsNoted T n K) (Is (point_at T t n)) (Is (point_at T p.who n)) (λ z e. subst (Reach (IsNoted T n K) (Is (point_at T t n))) (s.0 ∙ sym e) r) q o)

module _ (T : Run) (n : ℕ) (D : ℕ → Bool) (K : ℕ → List Point) (x : AreNoted T n D K) where
  -- the whole past of the present point of one that isn't doomed is accounted for
  all_accounted : (t : ℕ) → IsFalse (D t) → (q : Point) → PastIn T (Before n) (Is (point_at T t n)) q → IsAccounted T n K (point_at T t n) q
  all_accounted t f = least (Link T (Before n)) (Is (point_at T t n)) (IsAccounted T n K (point_at T t n)) (record { starts = λ q e. inr (start e); follows = λ p q h l. linked p q h l }) where
    linked : (p q : Point) → IsAccounted T n K (point_at T t n) p → Link T (Before n) p q → IsAccounted T n K (point_at T t n) q
    linked p q h (takes {j = j} lt b) = onward T n D K x.spread t f p q j lt (λ u g y. x.accounted u g j q lt y) b h
    linked p q h (closing {i = i} e k) = inl (record { closed = q; is_closed = closing_is_closed T (Before n) p.who i q k; in_past = start refl })

  -- so the point is clean
  pub not_doomed_clean : WellFormed T → KeepsRules T → (t : ℕ) → IsFalse (D t) → IsClean T n (point_at T t n)
  not_doomed_clean w rules t f fell = by (all_accounted t f fell.cause fell.in_past) where
    by : IsAccounted T n K (point_at T t n) fell.cause → ⊥
    by (inl h) = behind_closed T (Before n) h.closed fell.cause w rules h.is_closed h.in_past fell.fallen
    by (inr r) =
        let s = reached_sound T n D K x.spread t f fell.cause r in
        let y = fell.fallen in no_return T fell.cause.who y.place n y.place (omega arith) y.held (sym y.at_point ∙ s.0) (inr y.falls)

  -- more may be doomed
  pub more_doomed : (E : ℕ → Bool) → ((u : ℕ) → IsTrue (D u) → IsTrue (E u)) → ((u : ℕ) (p : Point) → IsTrue (E u) → Contains (K u) p → p ≡ point_at T p.who n → IsTrue (E p.who)) → AreNoted T n E K
  more_doomed E more spread = record {
    spread = spread;
    accounted = λ t f j q lt b. x.accounted t (false_unless (D t) (λ d. apart (E t) (more t d) f)) j q lt b;
    exist = x.exist;
    reached = x.reached;
  }

  -- and takers of those that aren't doomed may be added
  pub more_takers : (M : ℕ → List Point) (p : Point) → AreAdded D p K M → p.who ≤ born T n → IsUpTo p (point_at T p.who n) → AreNoted T n D M
  more_takers M p a few up = record {
    spread = λ u q d c e. ⊎_elim (λ old. x.spread u q d old e) (λ y. absurd (apart (D u) d y.1)) (a.only u q c);
    accounted = λ t f j q lt b. ⊎_elim (λ h. inl h) (λ r. inr (monotone (IsNoted T n K) (IsNoted T n M) (Is (point_at T t n)) (Is (point_at T t n)) on (λ z e. e) q r)) (x.accounted t f j q lt b);
    exist = λ u q c. ⊎_elim (λ old. x.exist u q old) (λ y. let F : Point → Type 0 = λ z. z.who ≤ born T n in subst F (sym y.0) few) (a.only u q c);
    reached = λ u q c. ⊎_elim (λ old. x.reached u q old) (λ y. let F : Point → Type 0 = λ z. IsUpTo z (point_at T z.who n) in subst F (sym y.0) up) (a.only u q c);
  } where
    on : (y z : Point) → IsNoted T n K y z → IsNoted T n M y z
    on y z l = record { place = l.place; before = l.before; takes = l.takes; present = l.present; listed = a.kept z.who y l.listed }

-- One step later.

-- a place up to n is before n, or n
place_cases : (n j : ℕ) → j < suc n → (j < n) ⊎ (j ≡ n)
place_cases n j h = ⊎_elim (λ lt. inl lt) (λ ge. let same : j ≡ n = omega (arith, h, ge) in inr same) (cases_lt j n)

later : (n j : ℕ) → Before n j → Before (suc n) j
later n j lt = omega (arith, lt)

behind_later : (T : Run) (n : ℕ) (q : Point) → IsBehind T n q → IsBehind T (suc n) q
behind_later T n q h = record {
  closed = h.closed;
  is_closed = closed_on T (Before n) (Before (suc n)) h.closed.who h.closed.interval h.closed (later n) h.is_closed;
  in_past = monotone (Link T (Before n)) (Link T (Before (suc n))) (Is h.closed) (Is h.closed) (λ x y l. link_on T (Before n) (Before (suc n)) (later n) x y l) (λ x e. e) q h.in_past;
}

reached_later : (T : Run) (n u : ℕ) (p : Point) → IsUpTo p (point_at T u n) → IsUpTo p (point_at T u (suc n))
reached_later T n u p up = up_then p (point_at T u n) (point_at T u (suc n)) up ((points_grow T u (suc n)).grows n (omega arith))

exists_later : (T : Run) (n u : ℕ) → u ≤ born T n → u ≤ born T (suc n)
exists_later T n u le = omega (arith, le, born-grows T n (suc n) (omega arith))

module _ (T : Run) (n : ℕ) (D : ℕ → Bool) (K : ℕ → List Point) (x : AreNoted T n D K) (same : (u : ℕ) → point_at T u (suc n) ≡ point_at T u n) where
  noted_later : (p q : Point) → IsNoted T n K p q → IsNoted T (suc n) K p q
  noted_later p q l = record { place = l.place; before = omega (arith, l.before); takes = l.takes; present = l.present ∙ sym (same q.who); listed = l.listed }

  spread_later : (u : ℕ) (p : Point) → IsTrue (D u) → Contains (K u) p → p ≡ point_at T p.who (suc n) → IsTrue (D p.who)
  spread_later u p d c e = x.spread u p d c (e ∙ same p.who)

  -- what was taken before is accounted for as it was
  earlier : (t : ℕ) → IsFalse (D t) → (j : ℕ) (q : Point) → j < n → TakesBy T j (point_at T t (suc n)) q → IsAccounted T (suc n) K (point_at T t (suc n)) q
  earlier t f j q lt b = by (x.accounted t f j q lt (let F : Point → Type 0 = λ y. TakesBy T j y q in subst F (same t) b)) where
    by : IsAccounted T n K (point_at T t n) q → IsAccounted T (suc n) K (point_at T t (suc n)) q
    by (inl h) = inl (behind_later T n q h)
    by (inr r) = inr (monotone (IsNoted T n K) (IsNoted T (suc n) K) (Is (point_at T t n)) (Is (point_at T t (suc n))) noted_later (λ z e. e ∙ sym (same t)) q r)

  -- where all points stay, it is enough to account for what is taken now
  stay : ((t : ℕ) → IsFalse (D t) → (q : Point) → TakesBy T n (point_at T t (suc n)) q → IsAccounted T (suc n) K (point_at T t (suc n)) q) → AreNoted T (suc n) D K
  stay now = record {
    spread = spread_later;
    accounted = λ t f j q lt b. ⊎_elim (λ h. earlier t f j q h b)
        (λ e. now t f q (let F : ℕ → Type 0 = λ k. TakesBy T k (point_at T t (suc n)) q in subst F e b)) (place_cases n j lt);
    exist = λ u p c. exists_later T n p.who (x.exist u p c);
    reached = λ u p c. reached_later T n p.who p (x.reached u p c);
  }

-- by the step at place n only p takes, what a list covers, and all that is listed
pub record IsTaking (T : Run) (n : ℕ) (p : Point) (H : ℕ → Type 0) (along : List Point) : Type 0 where
  pub taker : (a q : Point) → TakesBy T n a q → (a ≡ p) × Covered T H along n q
  pub takes_listed : (q : Point) → Contains along q → q ≢ p → TakesBy T n p q
  pub before : (i : ℕ) → H i → i < n

-- how a listed point is accounted for: it is closed, p has taken it before, or it is a present point and p is among its takers
pub data IsHandled (T : Run) (n : ℕ) (K : ℕ → List Point) (p q : Point) : Type 0 where
  closed : ClosedIn T (Before n) q → IsHandled T n K p q
  taken : {i : ℕ} → i < n → TakesBy T i p q → IsHandled T n K p q
  listed : q ≡ point_at T q.who n → Contains (K q.who) p → IsHandled T n K p q

module _ (T : Run) (n : ℕ) (D : ℕ → Bool) (K : ℕ → List Point) (x : AreNoted T n D K) (same : (u : ℕ) → point_at T u (suc n) ≡ point_at T u n) (p : Point) (H : ℕ → Type 0) (along : List Point) (taking : IsTaking T n p H along) where
  module _ (t : ℕ) (is : point_at T t (suc n) ≡ p) (f : IsFalse (D t)) (handled : (q : Point) → Contains along q → q ≢ p → IsHandled T n K p q) where
    abbrev accounted : Point → Type 0
    accounted q = IsAccounted T (suc n) K (point_at T t (suc n)) q

    by_closed : (q : Point) → ClosedIn T (Before n) q → accounted q
    by_closed q d = inl (behind_later T n q (record { closed = q; is_closed = d; in_past = start refl }))

    of_handled : (q : Point) → Contains along q → q ≢ p → IsHandled T n K p q → accounted q
    of_handled q c ne (closed d) = by_closed q d
    of_handled q c ne (taken {i = i} lt b) = earlier T n D K x same t f i q lt (let F : Point → Type 0 = λ y. TakesBy T i y q in subst F (sym is) b)
    of_handled q c ne (listed e k) = inr (next {x = p} (start (sym is)) (record { place = n; before = omega arith; takes = taking.takes_listed q c ne; present = e ∙ sym (same q.who); listed = k }))

    of_listed : (q : Point) → Contains along q → accounted q
    of_listed q c = ⊎_elim (λ e. inr (start (e ∙ sym is))) (λ ne. of_handled q c ne (handled q c ne)) (point_cases q p)

    of_covered : (q : Point) → Covered T H along n q → accounted q
    of_covered q (is_listed l) = of_listed q l
    of_covered q (is_closed d) = by_closed q (closed_on T H (Before n) q.who q.interval q taking.before d)
    of_covered q (through {r = r} {i = i} l lt h b) =
        onward T (suc n) D K (spread_later T n D K x same) t f r q i (omega (arith, lt)) (λ u g y. earlier T n D K x same u g i q lt y) b
        (⊎_elim (λ c. of_listed r c) (λ d. by_closed r (closed_on T H (Before n) r.who r.interval r taking.before d)) l)

  -- a step by which a point takes others, where it is doomed, or each listed point is handled
  pub taking_noted : (IsTrue (D p.who) ⊎ ((q : Point) → Contains along q → q ≢ p → IsHandled T n K p q)) → AreNoted T (suc n) D K
  taking_noted handled = stay T n D K x same (λ t f q b.
      let k = taking.taker (point_at T t (suc n)) q b in
      let F : ℕ → Type 0 = λ u. IsFalse (D u) in
      ⊎_elim (λ d. absurd (apart (D p.who) d (subst F (ap (λ y. y.who) k.0) f))) (λ g. of_covered t k.0 f g q k.1) handled)

-- who leaves its point by the step at place n: nobody, one that closes it, or one that falls from it and is doomed
pub data IsLeaving (T : Run) (n : ℕ) (D : ℕ → Bool) : Option ℕ → Type 0 where
  nobody : ((u : ℕ) → ¬ Leaves T u n) → IsLeaving T n D None
  closes : {u : ℕ} → Closes T u n → IsLeaving T n D (Some u)
  falls : {u : ℕ} → Falls T u n → IsTrue (D u) → IsLeaving T n D (Some u)

-- one at most leaves its point
leaves_alone : (T : Run) (n u w : ℕ) → Leaves T u n → Leaves T w n → u ≡ w
leaves_alone T n u w a b = by (leaves_ends T u n a) (leaves_ends T w n b) where
  by : Does ends_turn T u n → Does ends_turn T w n → u ≡ w
  by d e = let steps : d.step ≡ e.step = same_some (sym d.stands ∙ e.stands) in same_some (sym d.by ∙ ap actor steps ∙ e.by)

module _ {A : Type 0} (w : ℕ) (y : A) (f : ℕ → A) where
  pub cleared_here : cleared (Some w) y f w ≡ y
  cleared_here = ap (λ b. if b then y else f w) (eq-eqb w w refl)

  pub cleared_other : (u : ℕ) → u ≢ w → cleared (Some w) y f u ≡ f u
  cleared_other u ne = ap (λ b. if b then y else f u) (ne_eqb u w ne)

module _ (T : Run) (n : ℕ) (D : ℕ → Bool) (K : ℕ → List Point) (x : AreNoted T n D K) (none : (p q : Point) → ¬ TakesBy T n p q) where
  module _ (w : ℕ) (leaves : Leaves T w n) (gone : Closes T w n ⊎ IsTrue (D w)) where
    abbrev doomed : ℕ → Bool
    doomed = cleared (Some w) false D

    abbrev takers : ℕ → List Point
    takers = cleared (Some w) [] K

    same : (u : ℕ) → u ≢ w → point_at T u (suc n) ≡ point_at T u n
    same u ne = (points_grow T u n).stays (λ l. ne (leaves_alone T n u w l leaves))

    -- whoever is doomed, or has takers, is another one
    doomed_before : (u : ℕ) → IsTrue (doomed u) → (u ≢ w) × IsTrue (D u)
    doomed_before u d = ⊎_elim
        (λ e. absurd (apart (doomed u) d (let F : ℕ → Type 0 = λ v. doomed v ≡ false in subst F (sym e) (cleared_here w false D))))
        (λ ne. (ne, sym (cleared_other w false D u ne) ∙ d)) (cases_eq u w)

    takers_before : (u : ℕ) (p : Point) → Contains (takers u) p → (u ≢ w) × Contains (K u) p
    takers_before u p c = ⊎_elim
        (λ e. absurd (Contains-none p (let F : List Point → Type 0 = λ ps. Contains ps p in subst F ((let G : ℕ → Type 0 = λ v. takers v ≡ [] in subst G (sym e) (cleared_here w [] K))) c)))
        (λ ne. (ne, let F : List Point → Type 0 = λ ps. Contains ps p in subst F (cleared_other w [] K u ne) c)) (cases_eq u w)

    -- no taker is the next point of the one that leaves
    not_next : (u : ℕ) (p : Point) → Contains (K u) p → p ≡ point_at T p.who (suc n) → p.who ≢ w
    not_next u p c e h =
        let F : ℕ → Type 0 = λ v. p ≡ point_at T v (suc n) in
        let G : ℕ → Type 0 = λ v. IsUpTo p (point_at T v n) in
        not_up p (point_at T w n) (point_at T w (suc n)) (subst G h (x.reached u p c)) ((points_grow T w n).leaves leaves) (subst F h e)

    spread_on : (u : ℕ) (p : Point) → IsTrue (doomed u) → Contains (takers u) p → p ≡ point_at T p.who (suc n) → IsTrue (doomed p.who)
    spread_on u p d c e =
        let k = (takers_before u p c).1 in
        let ne = not_next u p k e in cleared_other w false D p.who ne ∙ x.spread u p (doomed_before u d).1 k (e ∙ same p.who ne)

    -- the next point has taken nothing
    nothing_taken : (j : ℕ) (q : Point) → j < n → ¬ TakesBy T j (point_at T w (suc n)) q
    nothing_taken j q lt (by_set {t = t} d e c ne) =
        let who : t ≡ w = sym (ap (λ p. p.who) e) in
        let F : ℕ → Type 0 = λ v. point_at T v j ≡ point_at T w (suc n) in
        not_up (point_at T w j) (point_at T w n) (point_at T w (suc n)) ((points_grow T w n).grows j (omega (arith, lt))) ((points_grow T w n).leaves leaves) (subst F who (sym e))
    nothing_taken j q lt (by_new {u = u} b e c ne) =
        not_up (first_point u) (point_at T w n) (point_at T w (suc n)) (first_up u (point_at T w n)) ((points_grow T w n).leaves leaves) (sym e)

    -- what was reached still is, or lies behind the point that is closed
    module _ (t : ℕ) (f : IsFalse (D t)) (other : t ≢ w) where
      abbrev still : Point → Type 0
      still q = IsAccounted T (suc n) takers (point_at T t (suc n)) q

      at_left : (p q : Point) → Reach (IsNoted T n K) (Is (point_at T t n)) q → q.who ≡ w → q ≡ point_at T q.who n → still q
      at_left p q r e present = ⊎_elim
          (λ c. inl (record { closed = q; is_closed = checkpoint {j = n} (omega arith) (let F : ℕ → Type 0 = λ v. Closes T v n in subst F (sym e) c) present refl; in_past = start refl }))
          (λ d. absurd (let F : ℕ → Type 0 = λ v. IsTrue (D v) in apart (D q.who) (subst F (sym e) d) (reached_sound T n D K x.spread t f q r).1)) gone

      linked : (p q : Point) → Reach (IsNoted T n K) (Is (point_at T t n)) p → still p → IsNoted T n K p q → still q
      linked p q r (inl h) l = inl (record { closed = h.closed; is_closed = h.is_closed; in_past = next h.in_past (takes (omega (arith, l.before)) l.takes) })
      linked p q r (inr o) l = ⊎_elim (λ e. at_left p q (next r l) e l.present)
          (λ ne. inr (next o (record {
            place = l.place;
            before = omega (arith, l.before);
            takes = l.takes;
            present = l.present ∙ sym (same q.who ne);
            listed = let F : List Point → Type 0 = λ ps. Contains ps p in subst F (sym (cleared_other w [] K q.who ne)) l.listed;
          })))
          (cases_eq q.who w)

      reached_on : (q : Point) → Reach (IsNoted T n K) (Is (point_at T t n)) q → Reach (IsNoted T n K) (Is (point_at T t n)) q × still q
      reached_on = least (IsNoted T n K) (Is (point_at T t n)) (λ q. Reach (IsNoted T n K) (Is (point_at T t n)) q × still q) (record {
        starts = λ q e. (start e, inr (start (e ∙ sym (same t other))));
        follows = λ p q h l. (next h.0 l, linked p q h.0 h.1 l);
      })

      accounted_on : (q : Point) → IsAccounted T n K (point_at T t n) q → still q
      accounted_on q (inl h) = inl (behind_later T n q h)
      accounted_on q (inr r) = (reached_on q r).1

    earlier_on : (t : ℕ) → IsFalse (doomed t) → (j : ℕ) (q : Point) → j < n → TakesBy T j (point_at T t (suc n)) q → IsAccounted T (suc n) takers (point_at T t (suc n)) q
    earlier_on t f j q lt b = ⊎_elim
        (λ e. absurd (nothing_taken j q lt (let F : ℕ → Type 0 = λ v. TakesBy T j (point_at T v (suc n)) q in subst F e b)))
        (λ ne.
        let g : IsFalse (D t) = sym (cleared_other w false D t ne) ∙ f in
        accounted_on t g ne q (x.accounted t g j q lt (let F : Point → Type 0 = λ y. TakesBy T j y q in subst F (same t ne) b)))
        (cases_eq t w)

    left_noted : AreNoted T (suc n) doomed takers
    left_noted = record {
      spread = spread_on;
      accounted = λ t f j q lt b. ⊎_elim (λ h. earlier_on t f j q h b)
          (λ e. absurd (none (point_at T t (suc n)) q (let F : ℕ → Type 0 = λ k. TakesBy T k (point_at T t (suc n)) q in subst F e b))) (place_cases n j lt);
      exist = λ u p c. exists_later T n p.who (x.exist u p (takers_before u p c).1);
      reached = λ u p c. reached_later T n p.who p (x.reached u p (takers_before u p c).1);
    }

  -- a step by which no point takes another
  pub leaving_noted : (l : Option ℕ) → IsLeaving T n D l → AreNoted T (suc n) (cleared l false D) (cleared l [] K)
  leaving_noted None (nobody stays) = stay T n D K x (λ u. (points_grow T u n).stays (stays u)) (λ t f q b. absurd (none (point_at T t (suc n)) q b))
  leaving_noted (Some w) (closes c) = left_noted w (inl c) (inl c)
  leaving_noted (Some w) (falls e d) = left_noted w (inr e) (inr d)
