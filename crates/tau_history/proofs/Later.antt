-- Fates under a later history.
use Rattle.std.proofs.Common.{◌≡◌, ◌≢◌, ℕ, ◌<◌, ◌≤◌, ◌⊎◌, inl, inr, ⊎_elim, refl, sym, ap, ◌∙◌, arith}
use Rattle.std.specs.Prelude.{slice_get, slice_index}
use Rattle.std.proofs.lemmas.Option.{get_or_from_slice_get, unwrap_or-slice_get}
use Rattle.std.specs.Prelude.{unwrap_or}
use Rattle.std.proofs.lemmas.Bool.{cases_lt}
use Rattle.tau_history.specs.Timeline.{Timeline, numbers, interval}
use Rattle.tau_history.specs.Order.{Precedes}
use Rattle.tau_history.specs.Fates.{fate, IsOwn, IsClosed, IsFallen, IsStable, IsOpen}
use Rattle.tau_history.specs.declared.fate.Fate.{Fate}
use Rattle.tau_history.specs.declared.fate.Fate.TheVariants.{Ahead, Open, Stable, Closed, Fallen}
use Rattle.tau_history.proofs.Order.{IsBelow, fallen, same_point, later_interval, below_of, longer}
use Rattle.tau_history.proofs.Chain.{interval_grows, number_stays, own_number_grows}
use Rattle.tau_history.proofs.Table.{own_number, has_row, fate-closed, fate-fallen, HasReached, reached_of, not_ahead}

-- the number of a closed interval stays, and no number falls
pub index_stays : {a b : Timeline} → Precedes a b → (i : ℕ) → i < interval a → slice_index (numbers b) i ≡ slice_index (numbers a) i
index_stays {a} {b} p i lt =
    sym (unwrap_or-slice_get (numbers b) i 0) ∙ ap (λ o. unwrap_or o 0) (number_stays p i lt) ∙ unwrap_or-slice_get (numbers a) i 0

pub index_grows : {a b : Timeline} → Precedes a b → (i : ℕ) → i ≤ interval a → slice_index (numbers a) i ≤ slice_index (numbers b) i
index_grows {a} {b} p i le = ⊎_elim
    (λ lt. omega (arith, index_stays p i lt))
    (λ ge.
    let here : i ≡ interval a = omega arith in
    let n = own_number_grows p in
    let later : slice_index (numbers b) i ≡ n.0 = get_or_from_slice_get (numbers b) i n.0 0 (ap (slice_get (numbers b)) here ∙ n.1) in
    omega (arith, own_number a i here, later, n.2))
    (cases_lt i (interval a))

pub reached_stays : {a b : Timeline} {i m : ℕ} → Precedes a b → HasReached a i m → HasReached b i m
reached_stays {a} {b} {i} {m} p r = record { within = omega (arith, interval_grows p, r.within); not_above = omega (arith, index_grows p i r.within, r.not_above) }

pub closed_stays : {a b : Timeline} {i m : ℕ} → Precedes a b → IsClosed a i m → IsClosed b i m
closed_stays {a} {b} {i} {m} p r = record { below = omega (arith, interval_grows p, r.below); number = r.number ∙ sym (index_stays p i r.below) }

pub fallen_stays : {a b : Timeline} {i m : ℕ} → Precedes a b → IsFallen a i m → IsFallen b i m
fallen_stays {a} {b} {i} {m} p r = record { within = omega (arith, interval_grows p, r.within); below_number = omega (arith, index_grows p i r.within, r.below_number) }

own_reached : (h : Timeline) (i m : ℕ) → IsOwn h i m → HasReached h i m
own_reached h i m o = record { within = omega (arith, o.interval_is); not_above = omega (arith, own_number h i o.interval_is, o.incarnation_is) }

-- the own point of a history is not ahead of it
pub own_not_ahead : (h : Timeline) (i m : ℕ) → IsOwn h i m → fate h i m ≢ Ahead
own_not_ahead h i m o = not_ahead h i m (own_reached h i m o)

-- a stable point is open under no later history
stable_not_open : (a b : Timeline) (i m : ℕ) → Precedes a b → IsStable a i m → IsOpen b i m → ⊥
stable_not_open a b i m p s o = by_parts (below_of p) where
  same : interval a ≡ interval b
  same = sym s.own.interval_is ∙ o.own.interval_is

  by_parts : IsBelow a b → ⊥
  by_parts (fallen e l) = omega (arith, s.own.incarnation_is, o.own.incarnation_is)
  by_parts (same_point e l t) = let q = t s.mode in let r = o.mode in cc (q, r)
  by_parts (later_interval n r e l) = omega (arith, longer a b n r e)

pub law_reached : (a b : Timeline) (i m : ℕ) → Precedes a b → fate a i m ≢ Ahead → fate b i m ≢ Ahead
law_reached a b i m p n = not_ahead b i m (reached_stays p (reached_of a i m n))

pub law_closed : (a b : Timeline) (i m : ℕ) → Precedes a b → fate a i m ≡ Closed → fate b i m ≡ Closed
law_closed a b i m p e = fate-closed b i m (closed_stays p (has_row a i m Closed e))

pub law_fallen : (a b : Timeline) (i m : ℕ) → Precedes a b → fate a i m ≡ Fallen → fate b i m ≡ Fallen
law_fallen a b i m p e = fate-fallen b i m (fallen_stays p (has_row a i m Fallen e))

pub law_stable : (a b : Timeline) (i m : ℕ) → Precedes a b → fate a i m ≡ Stable → ((fate b i m ≡ Stable) ⊎ (fate b i m ≡ Closed)) ⊎ (fate b i m ≡ Fallen)
law_stable a b i m p e = by_fate (fate b i m) refl where
  s : IsStable a i m
  s = has_row a i m Stable e

  by_fate : (f : Fate) → fate b i m ≡ f → ((fate b i m ≡ Stable) ⊎ (fate b i m ≡ Closed)) ⊎ (fate b i m ≡ Fallen)
  by_fate Ahead q = absurd (law_reached a b i m p (own_not_ahead a i m s.own) q)
  by_fate Open q = absurd (stable_not_open a b i m p s (has_row b i m Open q))
  by_fate Stable q = inl (inl q)
  by_fate Closed q = inl (inr q)
  by_fate Fallen q = inr q
