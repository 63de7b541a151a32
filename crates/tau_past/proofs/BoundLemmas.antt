-- Bounds of closed sets.
use Rattle.std.proofs.Common.{◌≡◌, ◌≢◌, ◌⊎◌, ◌↔◌, inl, inr, ⊎_elim, ℕ, zero, suc, ◌+◌, ◌<◌, ◌≤◌, max, false, cond, Option, Some, None, refl, sym, ap, ◌∙◌, subst, arith}
use Rattle.std.specs.Prelude.{option_and_then}
use Rattle.std.specs.Option.{option_map_or}
use Rattle.std.proofs.lemmas.Bool.{cases_eq}
use Rattle.tau_history.specs.Timeline.{keep, moved}
use Rattle.tau_points.specs.Reach.{start}
use Rattle.tau_trace.specs.declared.step.Step.{Step}
use Rattle.tau_trace.specs.declared.step.Step.TheVariants.{Send, New, Echo, Repeat}
use Rattle.tau_trace.specs.Steps.{actor, is_new, makes_message}
use Rattle.tau_trace.specs.Run.{Run, step_at, ActsAt}
use Rattle.tau_trace.specs.Numbering.{born, sent, IsNew, IsRepeated, IsOrigin, direct, echoed}
use Rattle.tau_trace.specs.Histories.{history, move_at}
use Rattle.tau_trace.specs.Known.{WellFormed}
use Rattle.tau_trace.proofs.Once.{origin_acts}
use Rattle.tau_trace.proofs.Counted.{history-suc}
use Rattle.tau_trace.proofs.Counts.{count-suc}
use Rattle.tau_trace.proofs.Lists.{same_some}
use Rattle.tau_trace.proofs.Moves.{move_by-other}
use Rattle.tau_trace.proofs.Quiet.{acts}
use Rattle.tau_trace.proofs.Sequences.{cases_last}
use Rattle.tau_past.specs.Heard.{heard_by, earlier, IsCausallyClosed, own_step, Heard, HeardBy, HeardTogether, HoldsStepsBefore, Bound}
use Rattle.tau_past.specs.KnownLaws.{HearsOf, HearsOfNone, IsSame, Union, With, BoundsWithStep, HasBounds}
use Rattle.tau_past.proofs.Known.{acts_known, hears_known, heard_before, heard_by_before}
use Rattle.tau_past.proofs.HeardLemmas.{new_acts, heard_after_step, heard_with_sender, copies_hear}
use Rattle.tau_value.proofs.NameLemmas.{last_or_below}

equal_or_less : (i n : ℕ) → i ≤ n → (i ≡ n) ⊎ (i < n)
equal_or_less i n l = grind arith

-- a closed set holds earlier steps
pub holds_earlier : (H : ℕ → Type 0) (T : Run) (u j k : ℕ) → IsCausallyClosed T H → H k → ActsAt T u k → ActsAt T u j → j ≤ k → H j
holds_earlier H T u j k c h a b le = ⊎_elim (λ e. subst H (sym e) h) (λ l. c.closed k j h (earlier a b l)) (equal_or_less j k le)

-- no bound is above another
up_to : (H : ℕ → Type 0) (T : Run) (u a b : ℕ) → Bound T H u a → Bound T H u b → b ≤ a
up_to H T u a b x y = ⊎_elim (λ e. omega (arith, e)) (λ s. omega (arith, s.1, (x.steps s.0 s.2).0 s.3)) y.last

pub bound_once : (H : ℕ → Type 0) (T : Run) (u a b : ℕ) → Bound T H u a → Bound T H u b → a ≡ b
bound_once H T u a b x y = omega (arith, up_to H T u a b x y, up_to H T u b a y x)

either : (a b : ℕ) → ((max a b ≡ a) × (b ≤ a)) ⊎ ((max a b ≡ b) × (a ≤ b))
either a b = grind arith

below_either : (j a b : ℕ) → j < max a b → (j < a) ⊎ (j < b)
below_either j a b l = grind arith

pub union_bound : (H G : ℕ → Type 0) (T : Run) (u a b : ℕ) → Bound T H u a → Bound T G u b → Bound T (Union H G) u (max a b)
union_bound H G T u a b x y = record { steps = steps; last = last } where
  steps : (j : ℕ) → ActsAt T u j → Union H G j ↔ (j < max a b)
  steps j acts = (
    λ h. ⊎_elim (λ p. omega (arith, (x.steps j acts).0 p)) (λ p. omega (arith, (y.steps j acts).0 p)) h,
    λ l. ⊎_elim (λ p. inl ((x.steps j acts).1 p)) (λ p. inr ((y.steps j acts).1 p)) (below_either j a b l),
  )

  last : (max a b ≡ 0) ⊎ ((j : ℕ) × (max a b ≡ suc j) × ActsAt T u j × Union H G j)
  last = ⊎_elim
      (λ e. ⊎_elim (λ z. inl (e.0 ∙ z)) (λ s. inr (s.0, e.0 ∙ s.1, s.2, inl s.3)) x.last)
      (λ e. ⊎_elim (λ z. inl (e.0 ∙ z)) (λ s. inr (s.0, e.0 ∙ s.1, s.2, inr s.3)) y.last)
      (either a b)

-- bounds of the same set
pub bound_same : (T : Run) (H G : ℕ → Type 0) (u : ℕ) → IsSame H G → (a : ℕ) × Bound T G u a → (a : ℕ) × Bound T H u a
bound_same T H G u same x = (
  x.0,
  record {
    steps = λ j acts. (λ h. (x.1.steps j acts).0 ((same j).0 h), λ l. (same j).1 ((x.1.steps j acts).1 l));
    last = ⊎_elim (λ z. inl z) (λ s. inr (s.0, s.1, s.2, (same s.0).1 s.3)) x.1.last;
  },
)

-- one more place, that of a step of t which joins t's earlier steps
own_bound : (H : ℕ → Type 0) (T : Run) (t k : ℕ) → ActsAt T t k → HoldsStepsBefore T H t k → Bound T (With H k) t (suc k)
own_bound H T t k at before = record {
  steps = λ j acts. (
    λ h. ⊎_elim (λ p. omega (arith, (before j acts).0 p)) (λ p. omega (arith, p)) h,
    λ l. ⊎_elim (λ p. inr p) (λ p. inl ((before j acts).1 p)) (cases_last j k l),
  );
  last = inr (k, refl, at, inr refl);
}

other_bound : (H : ℕ → Type 0) (T : Run) (t k u a : ℕ) → ActsAt T t k → u ≢ t → Bound T H u a → Bound T (With H k) u a
other_bound H T t k u a at ne x = record {
  steps = λ j acts. (
    λ h. ⊎_elim (λ p. (x.steps j acts).0 p) (λ p. absurd (ne (same_some (sym (subst (ActsAt T u) p acts) ∙ at)))) h,
    λ l. inl ((x.steps j acts).1 l),
  );
  last = ⊎_elim (λ z. inl z) (λ s. inr (s.0, s.1, s.2, inl s.3)) x.last;
}

pub bounds_with_step : (H : ℕ → Type 0) (T : Run) (t k : ℕ) → ActsAt T t k → HoldsStepsBefore T H t k → BoundsWithStep T H t k
bounds_with_step H T t k at before = record { own = own_bound H T t k at before; other = λ u a ne x. other_bound H T t k u a at ne x }

bound_with : (T : Run) (H : ℕ → Type 0) (t k u : ℕ) → ActsAt T t k → HoldsStepsBefore T H t k → (a : ℕ) × Bound T H u a → (a : ℕ) × Bound T (With H k) u a
bound_with T H t k u at before x = ⊎_elim
    (λ (e : u ≡ t). subst (λ w. (a : ℕ) × Bound T (With H k) w a) (sym e) (suc k, own_bound H T t k at before))
    (λ ne. (x.0, other_bound H T t k u x.0 at ne x.1))
    (cases_eq u t)

-- where u makes no step from place a on and before n, its history stays
quiet_from : (T : Run) (u a n : ℕ) → a ≤ n → ((j : ℕ) → a ≤ j → j < n → ¬ ActsAt T u j) → history T u a ≡ history T u n
quiet_from T u a zero le quiet = let e : a ≡ 0 = omega arith in ap (history T u) e
quiet_from T u a (suc n) le quiet = ⊎_elim
    (λ (e : a ≡ suc n). ap (history T u) e)
    (λ (l : a < suc n).
    let move : move_at T u n ≡ keep = move_by-other u (history T u n).stable (step_at T n) (λ s e by. quiet n (omega arith) (omega arith) (acts T u n s e by)) in
    quiet_from T u a n (omega arith) (λ j b c. quiet j b (omega arith)) ∙ sym (history-suc T u n ∙ ap (λ m. moved m (history T u n)) move))
    (equal_or_less a (suc n) le)

pub bound_history : (H : ℕ → Type 0) (T : Run) (u a k : ℕ) → HoldsStepsBefore T H u k → Bound T H u a → history T u a ≡ history T u k
bound_history H T u a k before x = quiet_from T u a k within (λ j le lt act. omega (arith, le, (x.steps j act).0 ((before j act).1 lt))) where
  within : a ≤ k
  within = ⊎_elim (λ e. omega (arith, e)) (λ s. omega (arith, s.1, (before s.0 s.2).0 s.3)) x.last

-- what a place of the trace is, decided
acts_or_not : (T : Run) (t k : ℕ) → ActsAt T t k ⊎ ¬ ActsAt T t k
acts_or_not T t k = by (option_and_then actor (step_at T k)) where
  by : (o : Option ℕ) → (o ≡ Some t) ⊎ ¬ (o ≡ Some t)
  by None = inr (λ (e : None ≡ Some t). cc)
  by (Some u) = ⊎_elim (λ e. inl (ap Some e)) (λ ne. inr (λ e. ne (same_some e))) (cases_eq u t)

hears_or_not : (T : Run) (k : ℕ) → HearsOfNone T k ⊎ ((m : ℕ) × HearsOf T k m)
hears_or_not T k = by (option_and_then heard_by (step_at T k)) where
  by : (o : Option ℕ) → (o ≡ None) ⊎ ((m : ℕ) × (o ≡ Some m))
  by None = inl refl
  by (Some m) = inr (m, refl)

-- who exists after a step existed before it or is made by it
born_or_new : (T : Run) (t k : ℕ) → t < born T (suc k) → (t < born T k) ⊎ ((by : ℕ) × IsNew T k by t)
born_or_new T t k lt = by_step (step_at T k) refl where
  grown : born T (suc k) ≡ born T k + cond (option_map_or is_new (step_at T k) false) 1 0
  grown = omega (arith, count-suc (λ j. option_map_or is_new (step_at T j) false) k)

  fits : (o : Option Step) → step_at T k ≡ o → t < born T k + cond (option_map_or is_new o false) 1 0
  fits o e = subst (λ s. t < born T k + cond (option_map_or is_new s false) 1 0) e (subst (λ n. t < n) grown lt)

  by_step : (o : Option Step) → step_at T k ≡ o → (t < born T k) ⊎ ((by : ℕ) × IsNew T k by t)
  by_step None e = inl (omega (arith, fits None e))
  by_step (Some (New u b n v)) e = ⊎_elim
      (λ l. inl l)
      (λ same. inr (u, record { behaviour = b; node = n; state = v; stands = e; made = same }))
      (last_or_below t (born T k) (fits (Some (New u b n v)) e))
  by_step (Some s) e = inl (omega (arith, fits (Some s) e))

-- a message that exists after a step existed before it, or the step is its origin, or makes it as a copy
data MadeCase (T : Run) (k m : ℕ) : Type 0 where
  older : m < sent T k → MadeCase T k m
  origin : (by : ℕ) → IsOrigin T k by m → MadeCase T k m
  copy : (n : ℕ) → IsRepeated T k n m → MadeCase T k m

made-cases : (T : Run) (m k : ℕ) → WellFormed T → m < sent T (suc k) → MadeCase T k m
made-cases T m k w lt = by_step (step_at T k) refl where
  grown : sent T (suc k) ≡ sent T k + cond (option_map_or makes_message (step_at T k) false) 1 0
  grown = omega (arith, count-suc (λ j. option_map_or makes_message (step_at T j) false) k)

  fits : (o : Option Step) → step_at T k ≡ o → m < sent T k + cond (option_map_or makes_message o false) 1 0
  fits o e = subst (λ s. m < sent T k + cond (option_map_or makes_message s false) 1 0) e (subst (λ n. m < n) grown lt)

  by_step : (o : Option Step) → step_at T k ≡ o → MadeCase T k m
  by_step None e = older (omega (arith, fits None e))
  by_step (Some (Send u x v)) e = ⊎_elim
      (λ l. older l)
      (λ same. origin u (direct (record { to = x; value = v; stands = e; made = same })))
      (last_or_below m (sent T k) (fits (Some (Send u x v)) e))
  by_step (Some (Echo u n)) e = ⊎_elim
      (λ l. older l)
      (λ same. origin u (echoed {n = n} (record { stands = e; made = same; earlier = omega (arith, same, (w.known k (Echo u n) e).1) })))
      (last_or_below m (sent T k) (fits (Some (Echo u n)) e))
  by_step (Some (Repeat n)) e = ⊎_elim
      (λ l. older l)
      (λ same. copy n (record { stands = e; made = same; earlier = omega (arith, same, w.known k (Repeat n) e) }))
      (last_or_below m (sent T k) (fits (Some (Repeat n)) e))
  by_step (Some s) e = older (omega (arith, fits (Some s) e))

-- a set without places has the bound 0
empty_bound : (T : Run) (H : ℕ → Type 0) (u : ℕ) → ((j : ℕ) → ¬ H j) → (a : ℕ) × Bound T H u a
empty_bound T H u none = (0, record { steps = λ j acts. (λ h. absurd (none j h), λ l. absurd (omega (arith, l))); last = inl refl })

-- its own steps that a transactor has heard
own_steps : (T : Run) → WellFormed T → (t k : ℕ) → t < born T k → HoldsStepsBefore T (Heard T t k) t k
own_steps T w t k there j a = (heard_before T t k j w there, λ l. start (own_step a l))

own_steps_together : (T : Run) → WellFormed T → (t k m : ℕ) → t < born T k → m < sent T k → HoldsStepsBefore T (HeardTogether T t k m) t k
own_steps_together T w t k m there exists j a = (
  λ h. ⊎_elim (heard_before T t k j w there) (heard_by_before T m k j w exists) h,
  λ l. inl (start (own_step a l)),
)

-- a bound at u for each transactor and each message of place k
record BoundsAt (T : Run) (u k : ℕ) : Type 0 where
  transactor : (t : ℕ) → t < born T k → (a : ℕ) × Bound T (Heard T t k) u a
  message : (m : ℕ) → m < sent T k → (a : ℕ) × Bound T (HeardBy T m) u a

module _ (T : Run) (w : WellFormed T) (u k : ℕ) (here : BoundsAt T u k) where
  -- after a step of t that hears of no message
  with_step : (t : ℕ) → ActsAt T t k → (a : ℕ) × Bound T (With (Heard T t k) k) u a
  with_step t a =
      let there = acts_known T t k w a in
      bound_with T (Heard T t k) t k u a (own_steps T w t k there) (here.transactor t there)

  with_message : (t m : ℕ) → ActsAt T t k → HearsOf T k m → (a : ℕ) × Bound T (With (HeardTogether T t k m) k) u a
  with_message t m a e =
      let there = acts_known T t k w a in
      let exists = hears_known T m k w e in
      let own = here.transactor t there in
      let other = here.message m exists in
      bound_with T (HeardTogether T t k m) t k u a (own_steps_together T w t k m there exists)
      (max own.0 other.0, union_bound (Heard T t k) (HeardBy T m) T u own.0 other.0 own.1 other.1)

  next_transactor : (t : ℕ) → t < born T (suc k) → (a : ℕ) × Bound T (Heard T t (suc k)) u a
  next_transactor t lt = ⊎_elim old new (born_or_new T t k lt) where
    acting : ActsAt T t k → (a : ℕ) × Bound T (Heard T t (suc k)) u a
    acting a = ⊎_elim
        (λ none. bound_same T (Heard T t (suc k)) (With (Heard T t k) k) u ((heard_after_step T t k w).alone a none) (with_step t a))
        (λ m. bound_same T (Heard T t (suc k)) (With (HeardTogether T t k m.0) k) u ((heard_after_step T t k w).hearing m.0 a m.1) (with_message t m.0 a m.1))
        (hears_or_not T k)

    old : t < born T k → (a : ℕ) × Bound T (Heard T t (suc k)) u a
    old there = ⊎_elim acting (λ none. bound_same T (Heard T t (suc k)) (Heard T t k) u ((heard_after_step T t k w).other none) (here.transactor t there)) (acts_or_not T t k)

    new : (by : ℕ) × IsNew T k by t → (a : ℕ) × Bound T (Heard T t (suc k)) u a
    new n = bound_same T (Heard T t (suc k)) (With (Heard T n.0 k) k) u ((heard_after_step T t k w).created n.0 n.1) (with_step n.0 (new_acts T k n.0 t n.1))

  next_message : (m : ℕ) → m < sent T (suc k) → (a : ℕ) × Bound T (HeardBy T m) u a
  next_message m lt = by (made-cases T m k w lt) where
    by : MadeCase T k m → (a : ℕ) × Bound T (HeardBy T m) u a
    by (older l) = here.message m l
    by (origin t o) = bound_same T (HeardBy T m) (With (Heard T t k) k) u (heard_with_sender T m k t o) (with_step t (origin_acts T k t m o))
    by (copy n c) = bound_same T (HeardBy T m) (HeardBy T n) u (copies_hear T k n m c) (here.message n (omega (arith, c.earlier, c.made)))

bounds_at : (T : Run) → WellFormed T → (u k : ℕ) → BoundsAt T u k
bounds_at T w u zero = record {
  transactor = λ t lt. empty_bound T (Heard T t 0) u (λ j h. omega (arith, heard_before T t 0 j w lt h));
  message = λ m lt. empty_bound T (HeardBy T m) u (λ j h. omega (arith, heard_by_before T m 0 j w lt h));
}
bounds_at T w u (suc k) =
    let here = bounds_at T w u k in
    record { transactor = next_transactor T w u k here; message = next_message T w u k here }

pub has_bounds : (T : Run) (k : ℕ) → WellFormed T → HasBounds T k
has_bounds T k w = record {
  transactor = λ t u lt. (bounds_at T w u k).transactor t lt;
  message = λ m u lt. (bounds_at T w u k).message m lt;
  own = λ t lt. own_steps T w t k lt;
  together = λ t m lt l. own_steps_together T w t k m lt l;
}
