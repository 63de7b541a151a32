-- The order of histories, told by their parts.
use Rattle.std.proofs.Common.{◌≡◌, ℕ, suc, ◌+◌, ◌-◌, ◌<◌, ◌≤◌, inl, inr, Bool, true, false, IsTrue, List, [], ◌∷◌, ◌++◌, length, refl, sym, ap, ◌∙◌, subst, append_assoc, length-append, arith}
use Rattle.tau_history.specs.Timeline.{Timeline, Move, keep, stabilize, close, fall, moved, interval}
use Rattle.tau_history.specs.Order.{Precedes, here, more, AreComparable}
use Rattle.tau_history.proofs.Paths.{and_then, volatile, falls, to_stable, along, with_mode}

-- how the parts of two histories lie where the first precedes the second
pub data IsBelow (a b : Timeline) : Type 0 where
  fallen : a.closed ≡ b.closed → a.last < b.last → IsBelow a b
  same_point : a.closed ≡ b.closed → a.last ≡ b.last → (IsTrue a.stable → IsTrue b.stable) → IsBelow a b
  later_interval : (n : ℕ) (rest : List ℕ) → b.closed ≡ a.closed ++ n ∷ rest → a.last ≤ n → IsBelow a b

-- every move, also a close while volatile, leads further
pub below_moved : (a b : Timeline) (m : Move) → IsBelow a b → IsBelow a (moved m b)
below_moved a b keep p = p
below_moved a b stabilize (fallen e l) = fallen e l
below_moved a b stabilize (same_point e l s) = same_point e l (λ _. refl)
below_moved a b stabilize (later_interval n r e l) = later_interval n r e l
below_moved a b fall (fallen e l) = fallen e (omega arith)
below_moved a b fall (same_point e l s) = fallen e (omega arith)
below_moved a b fall (later_interval n r e l) = later_interval n r e l
below_moved a b close (fallen e l) = later_interval b.last [] (ap (λ xs. xs ++ b.last ∷ []) (sym e)) (omega arith)
below_moved a b close (same_point e l s) = later_interval b.last [] (ap (λ xs. xs ++ b.last ∷ []) (sym e)) (omega arith)
below_moved a b close (later_interval n r e l) =
    later_interval n (r ++ b.last ∷ []) (ap (λ xs. xs ++ b.last ∷ []) e ∙ append_assoc a.closed (n ∷ r) (b.last ∷ [])) l

pub below_of : {a b : Timeline} → Precedes a b → IsBelow a b
below_of here = same_point refl refl (λ s. s)
below_of {a} (more {b = b} p m may e) = subst (IsBelow a) (sym e) (below_moved a b m (below_of p))

pub same_parts : (a b : Timeline) → a.stable ≡ b.stable → a.closed ≡ b.closed → a.last ≡ b.last → a ≡ b
same_parts a b s e l = λ i. record { stable = s i; closed = e i; last = l i }

same_modes : (p q : Bool) → (IsTrue p → IsTrue q) → (IsTrue q → IsTrue p) → p ≡ q
same_modes true q f g = sym (f refl)
same_modes false true f g = g refl
same_modes false false f g = refl

at_point : (a b : Timeline) → a.closed ≡ b.closed → a.last ≡ b.last → (IsTrue a.stable → IsTrue b.stable) → Precedes a b
at_point a b e l s = by_mode b.stable refl where
  by_mode : (t : Bool) → b.stable ≡ t → Precedes a b
  by_mode true t = more here stabilize tt (λ i. record { stable = t i; closed = sym e i; last = sym l i })
  by_mode false t = subst (Precedes a) (same_parts a b (same_modes a.stable b.stable s (λ h. cc)) e l) here

pub precedes_of : (a b : Timeline) → IsBelow a b → Precedes a b
precedes_of a b (fallen e l) =
    let p = falls a (b.last - a.last - 1) here in
    let n : a.last + suc (b.last - a.last - 1) ≡ b.last = omega arith in
    with_mode b (subst (Precedes a) (λ i. volatile (e i) (n i)) p)
precedes_of a b (same_point e l s) = at_point a b e l s
precedes_of a b (later_interval n r e l) =
    let p = along (a.closed ++ n ∷ []) r b.last (and_then (to_stable a n l) close refl) in
    with_mode b (subst (λ xs. Precedes a (volatile xs b.last)) (append_assoc a.closed (n ∷ []) r ∙ sym e) p)

pub longer : (a b : Timeline) (n : ℕ) (r : List ℕ) → b.closed ≡ a.closed ++ n ∷ r → interval a < interval b
longer a b n r e = omega (arith, ap length e, length-append a.closed (n ∷ r))

same_length : (a b : Timeline) → a.closed ≡ b.closed → interval a ≡ interval b
same_length a b e = ap length e

-- the order by interval, incarnation and mode
pub data RanksBelow (a b : Timeline) : Type 0 where
  by_interval : interval a < interval b → RanksBelow a b
  by_incarnation : interval a ≡ interval b → a.last < b.last → RanksBelow a b
  by_mode : interval a ≡ interval b → a.last ≡ b.last → (IsTrue a.stable → IsTrue b.stable) → RanksBelow a b

pub rank_of : (a b : Timeline) → IsBelow a b → RanksBelow a b
rank_of a b (fallen e l) = by_incarnation (ap length e) l
rank_of a b (same_point e l s) = by_mode (ap length e) l s
rank_of a b (later_interval n r e l) = by_interval (longer a b n r e)

-- of two histories of which one precedes the other, the rank tells which
ranked : (a b : Timeline) → IsBelow b a → RanksBelow a b → IsBelow a b
ranked a b (fallen e l) (by_interval h) = absurd (omega (arith, same_length b a e))
ranked a b (fallen e l) (by_incarnation h k) = absurd (omega arith)
ranked a b (fallen e l) (by_mode h k s) = absurd (omega arith)
ranked a b (same_point e l t) (by_interval h) = absurd (omega (arith, same_length b a e))
ranked a b (same_point e l t) (by_incarnation h k) = absurd (omega arith)
ranked a b (same_point e l t) (by_mode h k s) = same_point (sym e) k s
ranked a b (later_interval n r e l) (by_interval h) = absurd (omega (arith, longer b a n r e))
ranked a b (later_interval n r e l) (by_incarnation h k) = absurd (omega (arith, longer b a n r e))
ranked a b (later_interval n r e l) (by_mode h k s) = absurd (omega (arith, longer b a n r e))

pub precedes_by_rank : (a b : Timeline) → AreComparable a b → RanksBelow a b → Precedes a b
precedes_by_rank a b (inl p) r = p
precedes_by_rank a b (inr q) r = precedes_of a b (ranked a b (below_of q) r)

pub antisymmetric : (a b : Timeline) → Precedes a b → Precedes b a → a ≡ b
antisymmetric a b p q = by_parts (below_of p) (rank_of b a (below_of q)) where
  by_parts : IsBelow a b → RanksBelow b a → a ≡ b
  by_parts (fallen e l) (by_interval h) = absurd (omega (arith, same_length a b e))
  by_parts (fallen e l) (by_incarnation h k) = absurd (omega arith)
  by_parts (fallen e l) (by_mode h k s) = absurd (omega arith)
  by_parts (same_point e l t) (by_interval h) = absurd (omega (arith, same_length a b e))
  by_parts (same_point e l t) (by_incarnation h k) = absurd (omega arith)
  by_parts (same_point e l t) (by_mode h k s) = same_parts a b (same_modes a.stable b.stable t s) e l
  by_parts (later_interval n r e l) (by_interval h) = absurd (omega (arith, longer a b n r e))
  by_parts (later_interval n r e l) (by_incarnation h k) = absurd (omega (arith, longer a b n r e))
  by_parts (later_interval n r e l) (by_mode h k s) = absurd (omega (arith, longer a b n r e))
