-- Strictly before, told by interval, incarnation and mode.
use Rattle.std.proofs.Common.{◌≡◌, ◌≢◌, ℕ, ◌<◌, ◌≤◌, ◌⊎◌, inl, inr, ⊎_elim, ◌↔◌, nat_lt, Bool, true, false, not, ◌&&◌, IsTrue, ◌∷◌, length, refl, sym, ap, ◌∙◌, length-append, arith}
use Rattle.std.specs.Prelude.{◌==◌, if◌then◌else◌}
use Rattle.std.proofs.lemmas.Bool.{ltb-true, lt-ltb, le-ltb, eq-eqb, ne_eqb, cases_order}
use Rattle.tau_history.specs.Timeline.{Timeline, interval}
use Rattle.tau_history.specs.Order.{Precedes, here, AreComparable, IsBefore, ranks_before, later_of}
use Rattle.tau_history.proofs.Order.{IsBelow, fallen, same_point, later_interval, below_of, RanksBelow, by_interval, by_incarnation, by_mode, rank_of, precedes_by_rank, same_parts}

rank_before : (a b : Timeline) → IsBefore a b → RanksBelow a b
rank_before a b p = rank_of a b (below_of p.precedes)

-- i and j are the intervals
pub before_by_interval : (a b : Timeline) → AreComparable a b → (i j : ℕ) → i ≡ interval a → j ≡ interval b → i ≢ j → IsTrue (nat_lt i j) ↔ IsBefore a b
before_by_interval a b p i j ei ej ne = (to, λ q. from (rank_before a b q)) where
  apart : interval a ≢ interval b
  apart h = ne (ei ∙ h ∙ sym ej)

  to : IsTrue (nat_lt i j) → IsBefore a b
  to t = let lt = ltb-true i j t in record { precedes = precedes_by_rank a b p (by_interval (omega arith)); differs = λ e. apart (ap interval e) }

  from : RanksBelow a b → IsTrue (nat_lt i j)
  from (by_interval h) = lt-ltb i j (omega arith)
  from (by_incarnation e h) = absurd (apart e)
  from (by_mode e l s) = absurd (apart e)

-- m and n are the incarnations
pub before_by_incarnation : (a b : Timeline) → AreComparable a b → interval a ≡ interval b → (m n : ℕ) → m ≡ a.last → n ≡ b.last → m ≢ n → IsTrue (nat_lt m n) ↔ IsBefore a b
before_by_incarnation a b p same m n em en ne = (to, λ q. from (rank_before a b q)) where
  apart : a.last ≢ b.last
  apart h = ne (em ∙ h ∙ sym en)

  to : IsTrue (nat_lt m n) → IsBefore a b
  to t = let lt = ltb-true m n t in record { precedes = precedes_by_rank a b p (by_incarnation same (omega arith)); differs = λ e. apart (ap (λ h. h.last) e) }

  from : RanksBelow a b → IsTrue (nat_lt m n)
  from (by_interval h) = absurd (omega arith)
  from (by_incarnation e h) = lt-ltb m n (omega arith)
  from (by_mode e l s) = absurd (apart l)

-- at one point a volatile history is before a stable one
pub before_by_mode : (a b : Timeline) → AreComparable a b → interval a ≡ interval b → a.last ≡ b.last → IsBefore a b ↔ ((a.stable ≡ false) × (b.stable ≡ true))
before_by_mode a b p same last = (λ q. from (below_of q.precedes) q.differs, to) where
  to : (a.stable ≡ false) × (b.stable ≡ true) → IsBefore a b
  to m = record { precedes = precedes_by_rank a b p (by_mode same last (λ _. m.1)); differs = λ e. let s : a.stable ≡ b.stable = ap (λ h. h.stable) e in cc (m.0, m.1) }

  from : IsBelow a b → a ≢ b → (a.stable ≡ false) × (b.stable ≡ true)
  from (fallen e l) ne = absurd (omega arith)
  from (later_interval n r e l) ne = absurd (omega (arith, ap length e, length-append a.closed (n ∷ r)))
  from (same_point e l t) ne = modes a.stable b.stable refl refl where
    modes : (s u : Bool) → a.stable ≡ s → b.stable ≡ u → (a.stable ≡ false) × (b.stable ≡ true)
    modes true true f g = absurd (ne (same_parts a b (f ∙ sym g) e l))
    modes false false f g = absurd (ne (same_parts a b (f ∙ sym g) e l))
    modes true false f g = let h = t f in cc
    modes false true f g = (f, g)

both_modes : (s t : Bool) → (((not s && t) ≡ true) × (IsTrue s → IsTrue t)) ⊎ (((not s && t) ≡ false) × (IsTrue t → IsTrue s))
both_modes true t = inr (refl, λ _. refl)
both_modes false true = inl (refl, λ _. refl)
both_modes false false = inr (refl, λ h. h)

-- the rank tells one of the two ways
pub rank_tells : (a b : Timeline) → ((ranks_before a b ≡ true) × RanksBelow a b) ⊎ ((ranks_before a b ≡ false) × RanksBelow b a)
rank_tells a b = by_interval_of (cases_order (interval a) (interval b)) where
  at_last : interval a ≡ interval b → (a.last ≡ b.last) ⊎ ((a.last < b.last) ⊎ (b.last < a.last)) → ((if a.last == b.last then not a.stable && b.stable else nat_lt a.last b.last) ≡ true) × RanksBelow a b ⊎ ((if a.last == b.last then not a.stable && b.stable else nat_lt a.last b.last) ≡ false) × RanksBelow b a
  at_last e (inl l) = rw (eq-eqb a.last b.last l) (⊎_elim (λ p. inl (p.0, by_mode e l p.1)) (λ p. inr (p.0, by_mode (sym e) (sym l) p.1)) (both_modes a.stable b.stable))
  at_last e (inr (inl lt)) = let ne : a.last ≢ b.last = (λ h. omega arith) in rw (ne_eqb a.last b.last ne, lt-ltb a.last b.last lt) (inl (refl, by_incarnation e lt))
  at_last e (inr (inr lt)) = let ne : a.last ≢ b.last = (λ h. omega arith) in let le : b.last ≤ a.last = omega arith in rw (ne_eqb a.last b.last ne, le-ltb a.last b.last le) (inr (refl, by_incarnation (sym e) lt))

  by_interval_of : (interval a ≡ interval b) ⊎ ((interval a < interval b) ⊎ (interval b < interval a)) → ((ranks_before a b ≡ true) × RanksBelow a b) ⊎ ((ranks_before a b ≡ false) × RanksBelow b a)
  by_interval_of (inl e) = rw (eq-eqb (interval a) (interval b) e) (at_last e (cases_order a.last b.last))
  by_interval_of (inr (inl lt)) = let ne : interval a ≢ interval b = (λ h. omega arith) in rw (ne_eqb (interval a) (interval b) ne, lt-ltb (interval a) (interval b) lt) (inl (refl, by_interval lt))
  by_interval_of (inr (inr lt)) = let ne : interval a ≢ interval b = (λ h. omega arith) in let le : interval b ≤ interval a = omega arith in rw (ne_eqb (interval a) (interval b) ne, le-ltb (interval a) (interval b) le) (inr (refl, by_interval lt))

turned : (a b : Timeline) → AreComparable a b → AreComparable b a
turned a b (inl p) = inr p
turned a b (inr p) = inl p

pub later_preceded : (a b : Timeline) → AreComparable a b → Precedes a (later_of a b) × Precedes b (later_of a b)
later_preceded a b p = ⊎_elim
    (λ q. rw (q.0) (precedes_by_rank a b p q.1, here))
    (λ q. rw (q.0) (here, precedes_by_rank b a (turned a b p) q.1))
    (rank_tells a b)
