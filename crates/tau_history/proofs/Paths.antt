-- Moves in a row.
use Rattle.std.proofs.Common.{◌≡◌, ℕ, zero, suc, ◌+◌, ◌-◌, ◌≤◌, Bool, true, false, List, [], ◌∷◌, ◌++◌, refl, sym, ap, subst, append_assoc, arith}
use Rattle.std.proofs.lemmas.List.{append-nil}
use Rattle.tau_history.specs.Timeline.{Timeline, Move, stabilize, close, fall, moved}
use Rattle.tau_history.specs.Order.{Precedes, here, more, MayMove}

pub transitive : {a b c : Timeline} → Precedes a b → Precedes b c → Precedes a c
transitive p here = p
transitive p (more q m may e) = more (transitive p q) m may e

pub reflexive : (a : Timeline) → Precedes a a
reflexive a = here

pub law_transitive : (a b c : Timeline) → Precedes a b → Precedes b c → Precedes a c
law_transitive a b c p q = transitive p q

-- one move more
pub and_then : {a b : Timeline} → Precedes a b → (m : Move) → MayMove m b → Precedes a (moved m b)
and_then p m may = more p m may refl

abbrev pub volatile : List ℕ → ℕ → Timeline
volatile cs n = record { stable = false; closed = cs; last = n }

abbrev pub steady : List ℕ → ℕ → Timeline
steady cs n = record { stable = true; closed = cs; last = n }

-- one fall, and d more
pub falls : {a : Timeline} (b : Timeline) (d : ℕ) → Precedes a b → Precedes a (volatile b.closed (b.last + suc d))
falls b zero p = more p fall tt (ap (volatile b.closed) (omega arith))
falls b (suc d) p = more (falls b d p) fall tt (ap (volatile b.closed) (omega arith))

falls_to : {a : Timeline} (cs : List ℕ) (n : ℕ) → Precedes a (volatile cs 0) → Precedes a (volatile cs n)
falls_to cs zero p = p
falls_to {a} cs (suc d) p = subst (λ n. Precedes a (volatile cs n)) (omega arith) (falls (volatile cs 0) d p)

-- to a stable history with a number that is not less
stable_by : (a : Timeline) (d : ℕ) → Precedes a (steady a.closed (a.last + d))
stable_by a zero = more here stabilize tt (ap (steady a.closed) (omega arith))
stable_by a (suc d) = and_then (falls a d here) stabilize tt

pub to_stable : (a : Timeline) (n : ℕ) → a.last ≤ n → Precedes a (steady a.closed n)
to_stable a n le = subst (λ k. Precedes a (steady a.closed k)) (omega arith) (stable_by a (n - a.last))

-- closes interval after interval, with these numbers
pub along : {a : Timeline} (cs rest : List ℕ) (n : ℕ) → Precedes a (volatile cs 0) → Precedes a (volatile (cs ++ rest) n)
along {a} cs [] n p = subst (λ xs. Precedes a (volatile xs n)) (sym (append-nil cs)) (falls_to cs n p)
along {a} cs (x ∷ xs) n p =
    let closes = and_then (and_then (falls_to cs x p) stabilize tt) close refl in
    subst (λ ys. Precedes a (volatile ys n)) (append_assoc cs (x ∷ []) xs) (along (cs ++ x ∷ []) xs n closes)

-- and the mode
pub with_mode : {a : Timeline} (b : Timeline) → Precedes a (volatile b.closed b.last) → Precedes a b
with_mode {a} b p = by_mode b.stable refl where
  by_mode : (s : Bool) → b.stable ≡ s → Precedes a b
  by_mode true e = more p stabilize tt (λ i. record { stable = e i; closed = b.closed; last = b.last })
  by_mode false e = subst (Precedes a) (λ i. record { stable = sym e i; closed = b.closed; last = b.last }) p
