-- What one move does to fates, also a close while volatile.
use Rattle.std.proofs.Common.{◌≡◌, ℕ, ◌+◌, ◌<◌, ◌≤◌, ◌⊎◌, ◌↔◌, inl, inr, ⊎_elim, [], ◌∷◌, refl, sym, ◌∙◌, arith}
use Rattle.std.specs.Prelude.{slice_index}
use Rattle.std.proofs.Math.ListN.{get_or-append}
use Rattle.std.proofs.lemmas.Bool.{cases_lt}
use Rattle.tau_history.specs.Timeline.{Timeline, Move, keep, stabilize, close, fall, moved, numbers, interval}
use Rattle.tau_history.specs.Order.{Precedes}
use Rattle.tau_history.specs.Fates.{fate, IsOwn, IsClosed, IsFallen, IsStable}
use Rattle.tau_history.specs.declared.fate.Fate.TheVariants.{Stable, Closed, Fallen}
use Rattle.tau_history.proofs.Order.{same_point, below_moved, precedes_of}
use Rattle.tau_history.proofs.Table.{length-numbers, own_number, has_row, fate-closed, fate-fallen, fate-stable}
use Rattle.tau_history.proofs.Later.{closed_stays, fallen_stays}

-- a history precedes what a move makes of it; a close while volatile is a stabilize and a close
pub precedes_moved : (m : Move) (h : Timeline) → Precedes h (moved m h)
precedes_moved m h = precedes_of h (moved m h) (below_moved h h m (same_point refl refl (λ s. s)))

-- numbers after a fall, and after a close
fall_below : (h : Timeline) (i : ℕ) → i < interval h → slice_index (numbers (moved fall h)) i ≡ slice_index (numbers h) i
fall_below h i lt = get_or-append h.closed ((h.last + 1) ∷ []) 0 i lt ∙ sym (get_or-append h.closed (h.last ∷ []) 0 i lt)

close_within : (h : Timeline) (i : ℕ) → i ≤ interval h → slice_index (numbers (moved close h)) i ≡ slice_index (numbers h) i
close_within h i le = get_or-append (numbers h) (0 ∷ []) 0 i (omega (arith, length-numbers h))

close_own : (h : Timeline) (i : ℕ) → i ≡ interval h + 1 → slice_index (numbers (moved close h)) i ≡ 0
close_own h i e = own_number (moved close h) i (e ∙ sym (length-numbers h))

fallen_before : (m : Move) (h : Timeline) (i n : ℕ) → IsFallen (moved m h) i n → IsFallen h i n ⊎ ((m ≡ fall) × IsOwn h i n)
fallen_before keep h i n r = inl r
fallen_before stabilize h i n r = inl (record { within = r.within; below_number = r.below_number })
fallen_before fall h i n r = ⊎_elim
    (λ lt. inl (record { within = r.within; below_number = omega (arith, r.below_number, fall_below h i lt) }))
    (λ ge.
    let here : i ≡ interval h = omega (arith, r.within) in
    let up = own_number (moved fall h) i here in
    ⊎_elim (λ lt. inl (record { within = r.within; below_number = omega (arith, own_number h i here) }))
    (λ le. inr (refl, record { interval_is = here; incarnation_is = omega (arith, up, r.below_number) }))
    (cases_lt n h.last))
    (cases_lt i (interval h))
fallen_before close h i n r = ⊎_elim
    (λ lt. absurd (omega (arith, r.within, r.below_number, length-numbers h, close_own h i (omega (arith, r.within, length-numbers h)))))
    (λ le. inl (record { within = le; below_number = omega (arith, r.below_number, close_within h i le) }))
    (cases_lt (interval h) i)

own_fallen : (h : Timeline) (i n : ℕ) → IsOwn h i n → IsFallen (moved fall h) i n
own_fallen h i n o = record { within = omega (arith, o.interval_is); below_number = omega (arith, own_number (moved fall h) i o.interval_is, o.incarnation_is) }

own_closed : (h : Timeline) (i n : ℕ) → IsOwn h i n → IsClosed (moved close h) i n
own_closed h i n o = record {
  below = omega (arith, length-numbers h, o.interval_is);
  number = o.incarnation_is ∙ sym (own_number h i o.interval_is) ∙ sym (close_within h i (omega (arith, o.interval_is)));
}

closed_before : (m : Move) (h : Timeline) (i n : ℕ) → IsClosed (moved m h) i n → IsClosed h i n ⊎ ((m ≡ close) × IsOwn h i n)
closed_before keep h i n r = inl r
closed_before stabilize h i n r = inl (record { below = r.below; number = r.number })
closed_before fall h i n r = inl (record { below = r.below; number = r.number ∙ fall_below h i r.below })
closed_before close h i n r =
    let le : i ≤ interval h = omega (arith, r.below, length-numbers h) in
    let same = r.number ∙ close_within h i le in
    ⊎_elim (λ lt. inl (record { below = lt; number = same }))
    (λ ge. let here : i ≡ interval h = omega arith in inr (refl, record { interval_is = here; incarnation_is = same ∙ own_number h i here }))
    (cases_lt i (interval h))

stable_before : (m : Move) (h : Timeline) (i n : ℕ) → IsStable (moved m h) i n → IsStable h i n ⊎ ((m ≡ stabilize) × IsOwn h i n)
stable_before keep h i n r = inl r
stable_before stabilize h i n r = inr (refl, record { interval_is = r.own.interval_is; incarnation_is = r.own.incarnation_is })
stable_before fall h i n r = absurd (cc (r.mode))
stable_before close h i n r = absurd (cc (r.mode))

-- a point is Fallen after a move exactly where it was before, or the move is a fall made at it
pub fallen_after : (m : Move) (h : Timeline) (i n : ℕ) → (fate (moved m h) i n ≡ Fallen) ↔ ((fate h i n ≡ Fallen) ⊎ ((m ≡ fall) × IsOwn h i n))
fallen_after m h i n = (
  λ e. ⊎_elim (λ r. inl (fate-fallen h i n r)) (λ p. inr p) (fallen_before m h i n (has_row (moved m h) i n Fallen e)),
  λ q. fate-fallen (moved m h) i n (⊎_elim (λ e. fallen_stays (precedes_moved m h) (has_row h i n Fallen e)) (λ p. by_move m p.0 p.1) q),
) where
  by_move : (k : Move) → k ≡ fall → IsOwn h i n → IsFallen (moved k h) i n
  by_move fall e o = own_fallen h i n o
  by_move k e o = absurd (cc)

-- and Closed exactly where it was before, or the move is a close made at it
pub closed_after : (m : Move) (h : Timeline) (i n : ℕ) → (fate (moved m h) i n ≡ Closed) ↔ ((fate h i n ≡ Closed) ⊎ ((m ≡ close) × IsOwn h i n))
closed_after m h i n = (
  λ e. ⊎_elim (λ r. inl (fate-closed h i n r)) (λ p. inr p) (closed_before m h i n (has_row (moved m h) i n Closed e)),
  λ q. fate-closed (moved m h) i n (⊎_elim (λ e. closed_stays (precedes_moved m h) (has_row h i n Closed e)) (λ p. by_move m p.0 p.1) q),
) where
  by_move : (k : Move) → k ≡ close → IsOwn h i n → IsClosed (moved k h) i n
  by_move close e o = own_closed h i n o
  by_move k e o = absurd (cc)

-- a point is Stable after a move only where it was before, or the move is a stabilize made at it
pub stable_after : (m : Move) (h : Timeline) (i n : ℕ) → fate (moved m h) i n ≡ Stable → (fate h i n ≡ Stable) ⊎ ((m ≡ stabilize) × IsOwn h i n)
stable_after m h i n e = ⊎_elim (λ r. inl (fate-stable h i n r)) (λ p. inr p) (stable_before m h i n (has_row (moved m h) i n Stable e))
