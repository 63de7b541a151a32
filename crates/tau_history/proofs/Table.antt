-- The table of fates: each point meets exactly the row of its fate.
use Rattle.std.proofs.Common.{◌≡◌, ◌≢◌, ℕ, ◌+◌, ◌<◌, ◌≤◌, ◌⊎◌, ◌↔◌, inl, inr, ⊎_elim, Bool, true, false, [], ◌∷◌, length, None, Some, refl, sym, ap, ◌∙◌, subst, length-append, arith}
use Rattle.std.specs.Prelude.{slice_get, slice_index}
use Rattle.std.proofs.Math.Seq.{get_or-append_seam}
use Rattle.std.proofs.lemmas.Option.{slice_get-get_or, slice_get_past}
use Rattle.std.proofs.lemmas.Bool.{lt-ltb, le-ltb, eq-eqb, ne_eqb, cases_lt, cases_order, cases_Bool}
use Rattle.tau_history.specs.Timeline.{Timeline, numbers, interval}
use Rattle.tau_history.specs.Fates.{fate, fate_at, IsOwn, IsClosed, IsFallen, IsStable, IsOpen, IsAhead, HasFate}
use Rattle.tau_history.specs.declared.fate.Fate.{Fate}
use Rattle.tau_history.specs.declared.fate.Fate.TheVariants.{Ahead, Open, Stable, Closed, Fallen}

-- how many numbers there are
pub length-numbers : (h : Timeline) → length (numbers h) ≡ interval h + 1
length-numbers h = length-append h.closed (h.last ∷ [])

-- the number of the present interval
pub own_number : (h : Timeline) (i : ℕ) → i ≡ interval h → slice_index (numbers h) i ≡ h.last
own_number h i e = ap (slice_index (numbers h)) e ∙ get_or-append_seam h.closed h.last [] 0

within : (h : Timeline) (i : ℕ) → i ≤ interval h → slice_get (numbers h) i ≡ Some (slice_index (numbers h) i)
within h i le = slice_get-get_or (numbers h) i 0 (omega (arith, length-numbers h))

past : (h : Timeline) (i : ℕ) → interval h < i → slice_get (numbers h) i ≡ None
past h i lt = slice_get_past (numbers h) i (omega (arith, length-numbers h))

at_less : (own stable : Bool) (m n : ℕ) → m < n → fate_at own stable m (Some n) ≡ Fallen
at_less own stable m n lt = rw (lt-ltb m n lt) refl

at_more : (own stable : Bool) (m n : ℕ) → n < m → fate_at own stable m (Some n) ≡ Ahead
at_more own stable m n lt = let le : n ≤ m = omega arith in rw (le-ltb m n le, lt-ltb n m lt) refl

at_same : (own stable : Bool) (m n : ℕ) → m ≡ n → fate_at own stable m (Some n) ≡ fate_at own stable m (Some m)
at_same own stable m n e = ap (λ k. fate_at own stable m (Some k)) (sym e)

at_closed : (stable : Bool) (m : ℕ) → fate_at false stable m (Some m) ≡ Closed
at_closed stable m = let le : m ≤ m = omega arith in rw (le-ltb m m le) refl

at_own : (m : ℕ) (stable : Bool) (f : Fate) → (stable ≡ true) × (f ≡ Stable) ⊎ (stable ≡ false) × (f ≡ Open) → fate_at true stable m (Some m) ≡ f
at_own m stable f (inl p) = let le : m ≤ m = omega arith in rw (le-ltb m m le, p.0, p.1) refl
at_own m stable f (inr p) = let le : m ≤ m = omega arith in rw (le-ltb m m le, p.0, p.1) refl

-- what the function answers in each case
pub fate-past : (h : Timeline) (i m : ℕ) → interval h < i → fate h i m ≡ Ahead
fate-past h i m lt = ap (fate_at _ h.stable m) (past h i lt)

pub fate-more : (h : Timeline) (i m : ℕ) → i ≤ interval h → slice_index (numbers h) i < m → fate h i m ≡ Ahead
fate-more h i m le lt = ap (fate_at _ h.stable m) (within h i le) ∙ at_more _ h.stable m _ lt

pub fate-fallen : (h : Timeline) (i m : ℕ) → IsFallen h i m → fate h i m ≡ Fallen
fate-fallen h i m r = ap (fate_at _ h.stable m) (within h i r.within) ∙ at_less _ h.stable m _ r.below_number

pub fate-closed : (h : Timeline) (i m : ℕ) → IsClosed h i m → fate h i m ≡ Closed
fate-closed h i m r =
    let ne : i ≢ interval h = (λ e. omega (arith, r.below)) in
    ap (fate_at _ h.stable m) (within h i (omega (arith, r.below))) ∙ at_same _ h.stable m _ r.number ∙ ap (λ o. fate_at o h.stable m (Some m)) (ne_eqb i (interval h) ne) ∙ at_closed h.stable m

at_point : (h : Timeline) (i m : ℕ) → IsOwn h i m → fate h i m ≡ fate_at true h.stable m (Some m)
at_point h i m o =
    let same : m ≡ slice_index (numbers h) i = o.incarnation_is ∙ sym (own_number h i o.interval_is) in
    ap (fate_at _ h.stable m) (within h i (omega (arith, o.interval_is))) ∙ at_same _ h.stable m _ same ∙ ap (λ e. fate_at e h.stable m (Some m)) (eq-eqb i (interval h) o.interval_is)

pub fate-stable : (h : Timeline) (i m : ℕ) → IsStable h i m → fate h i m ≡ Stable
fate-stable h i m r = at_point h i m r.own ∙ at_own m h.stable Stable (inl (r.mode, refl))

pub fate-open : (h : Timeline) (i m : ℕ) → IsOpen h i m → fate h i m ≡ Open
fate-open h i m r = at_point h i m r.own ∙ at_own m h.stable Open (inr (r.mode, refl))

-- a fate, with its row
pub record Row (h : Timeline) (i m : ℕ) : Type 0 where
  pub fate_of : Fate
  pub is : fate h i m ≡ fate_of
  pub row : HasFate h i m fate_of

ahead_past : (h : Timeline) (i m : ℕ) → interval h < i → IsAhead h i m
ahead_past h i m lt = record {
  not_closed = λ r. omega (arith, r.below);
  not_fallen = λ r. omega (arith, r.within);
  not_stable = λ r. omega (arith, r.own.interval_is);
  not_open = λ r. omega (arith, r.own.interval_is);
}

ahead_more : (h : Timeline) (i m : ℕ) → slice_index (numbers h) i < m → IsAhead h i m
ahead_more h i m lt = record {
  not_closed = λ r. omega (arith, r.number);
  not_fallen = λ r. omega (arith, r.below_number);
  not_stable = λ r. omega (arith, own_number h i r.own.interval_is, r.own.incarnation_is);
  not_open = λ r. omega (arith, own_number h i r.own.interval_is, r.own.incarnation_is);
}

own_row : (h : Timeline) (i m : ℕ) → IsOwn h i m → Row h i m
own_row h i m o = ⊎_elim
    (λ s. let r : IsStable h i m = record { own = o; mode = s } in record { fate_of = Stable; is = fate-stable h i m r; row = r })
    (λ s. let r : IsOpen h i m = record { own = o; mode = s } in record { fate_of = Open; is = fate-open h i m r; row = r })
    (cases_Bool h.stable)

number_row : (h : Timeline) (i m : ℕ) → i ≤ interval h → m ≡ slice_index (numbers h) i → Row h i m
number_row h i m le e = ⊎_elim
    (λ lt. let r : IsClosed h i m = record { below = lt; number = e } in record { fate_of = Closed; is = fate-closed h i m r; row = r })
    (λ ge. let here : i ≡ interval h = omega arith in own_row h i m (record { interval_is = here; incarnation_is = e ∙ own_number h i here }))
    (cases_lt i (interval h))

pub row_of : (h : Timeline) (i m : ℕ) → Row h i m
row_of h i m = ⊎_elim
    (λ lt. record { fate_of = Ahead; is = fate-past h i m lt; row = ahead_past h i m lt })
    (λ le. ⊎_elim (λ e. number_row h i m le e)
    (λ d. ⊎_elim
    (λ lt. let r : IsFallen h i m = record { within = le; below_number = lt } in record { fate_of = Fallen; is = fate-fallen h i m r; row = r })
    (λ lt. record { fate_of = Ahead; is = fate-more h i m le lt; row = ahead_more h i m lt })
    d)
    (cases_order m (slice_index (numbers h) i)))
    (cases_lt (interval h) i)

pub has_row : (h : Timeline) (i m : ℕ) (f : Fate) → fate h i m ≡ f → HasFate h i m f
has_row h i m f e = let r = row_of h i m in subst (HasFate h i m) (sym r.is ∙ e) r.row

ahead_of : (h : Timeline) (i m : ℕ) → IsAhead h i m → fate h i m ≡ Ahead
ahead_of h i m a = by_fate (fate h i m) refl where
  by_fate : (f : Fate) → fate h i m ≡ f → fate h i m ≡ Ahead
  by_fate Ahead e = e
  by_fate Open e = absurd (a.not_open (has_row h i m Open e))
  by_fate Stable e = absurd (a.not_stable (has_row h i m Stable e))
  by_fate Closed e = absurd (a.not_closed (has_row h i m Closed e))
  by_fate Fallen e = absurd (a.not_fallen (has_row h i m Fallen e))

pub fate_by_row : (h : Timeline) (i m : ℕ) (f : Fate) → HasFate h i m f → fate h i m ≡ f
fate_by_row h i m Ahead r = ahead_of h i m r
fate_by_row h i m Open r = fate-open h i m r
fate_by_row h i m Stable r = fate-stable h i m r
fate_by_row h i m Closed r = fate-closed h i m r
fate_by_row h i m Fallen r = fate-fallen h i m r

pub by_table : (h : Timeline) (i m : ℕ) (f : Fate) → (fate h i m ≡ f) ↔ HasFate h i m f
by_table h i m f = (has_row h i m f, fate_by_row h i m f)

-- a history has come to the point
pub record HasReached (h : Timeline) (i m : ℕ) : Type 0 where
  pub within : i ≤ interval h
  pub not_above : m ≤ slice_index (numbers h) i

pub reached_of : (h : Timeline) (i m : ℕ) → fate h i m ≢ Ahead → HasReached h i m
reached_of h i m n = ⊎_elim
    (λ lt. absurd (n (fate-past h i m lt)))
    (λ le. ⊎_elim (λ lt. absurd (n (fate-more h i m le lt))) (λ ge. record { within = le; not_above = ge }) (cases_lt (slice_index (numbers h) i) m))
    (cases_lt (interval h) i)

pub not_ahead : (h : Timeline) (i m : ℕ) → HasReached h i m → fate h i m ≢ Ahead
not_ahead h i m r e = by_number (cases_order m (slice_index (numbers h) i)) where
  a : IsAhead h i m
  a = has_row h i m Ahead e

  by_mode : IsOwn h i m → ⊥
  by_mode o = ⊎_elim (λ s. a.not_stable (record { own = o; mode = s })) (λ s. a.not_open (record { own = o; mode = s })) (cases_Bool h.stable)

  by_number : (m ≡ slice_index (numbers h) i) ⊎ ((m < slice_index (numbers h) i) ⊎ (slice_index (numbers h) i < m)) → ⊥
  by_number (inl q) = ⊎_elim (λ lt. a.not_closed (record { below = lt; number = q }))
      (λ ge. let here : i ≡ interval h = omega (arith, r.within) in by_mode (record { interval_is = here; incarnation_is = q ∙ own_number h i here })) (cases_lt i (interval h))
  by_number (inr (inl lt)) = a.not_fallen (record { within = r.within; below_number = lt })
  by_number (inr (inr lt)) = omega (arith, r.not_above)
