-- The room of each receiver, after a change of one part.
use Rattle.std.proofs.Common.{ℕ, zero, suc, ◌<◌, ◌≤◌, ◌+◌, List, [], ◌∷◌, length, get_or, set, arith}
use Rattle.tau_mailbox.specs.Letters.{WithRoom}
use Rattle.tau_mailbox.specs.Parts.{ChangesAt, Widens, rooms_of}

-- the same parts under another bound
pub room-same : (ps : List WithRoom) (a b e : ℕ) → a ≤ b + e → (n : ℕ) → get_or (rooms_of ps a) n 0 ≤ get_or (rooms_of ps b) n 0 + e
room-same [] a b e h n = omega arith
room-same (p ∷ ps) a b e h zero = omega (arith, h)
room-same (p ∷ ps) a b e h (suc n) = room-same ps a b e h n

-- one part replaced by one whose room is at most e less
room-changed : (ps : List WithRoom) (i : ℕ) (q : WithRoom) (a b e : ℕ) → ((d : WithRoom) → (get_or ps i d).room ≤ q.room + e) → a ≤ b + e → (n : ℕ) → get_or (rooms_of ps a) n 0 ≤ get_or (rooms_of (set ps i q) b) n 0 + e
room-changed [] i q a b e k h n = omega arith
room-changed (p ∷ ps) zero q a b e k h zero = omega (arith, k p, h)
room-changed (p ∷ ps) zero q a b e k h (suc n) = room-same ps a b e h n
room-changed (p ∷ ps) (suc i) q a b e k h zero = omega (arith, h)
room-changed (p ∷ ps) (suc i) q a b e k h (suc n) = room-changed ps i q a b e k h n

-- the room of each receiver falls by at most e where that of the changed part does
pub room-falls : (i : ℕ) (R : WithRoom → WithRoom → Type 0) (ps qs : List WithRoom) (a b e : ℕ) → ChangesAt i R ps qs → ((p q : WithRoom) → R p q → p.room ≤ q.room + e) → a ≤ b + e → (n : ℕ) → get_or (rooms_of ps a) n 0 ≤ get_or (rooms_of qs b) n 0 + e
room-falls i R ps qs a b e change falls h n = rw change.is (room-changed ps i change.part a b e (λ d. falls (get_or ps i d) change.part (change.related d)) h n)

-- a receiver with room has it in its part and under the bound
pub room-has : (ps : List WithRoom) (n a : ℕ) → 1 ≤ get_or (rooms_of ps a) n 0 → (1 ≤ a) × ((d : WithRoom) → 1 ≤ (get_or ps n d).room) × (n < length ps)
room-has [] n a h = absurd (omega arith)
room-has (p ∷ ps) zero a h = (omega (arith, h), λ d. omega (arith, h), omega arith)
room-has (p ∷ ps) (suc n) a h = let r = room-has ps n a h in (r.0, r.1, omega (arith, r.2))

-- a receiver has room where its part has it and the bound allows it
pub room-from : (ps : List WithRoom) (n a : ℕ) → n < length ps → 1 ≤ a → ((d : WithRoom) → 1 ≤ (get_or ps n d).room) → 1 ≤ get_or (rooms_of ps a) n 0
room-from [] n a lt one has = absurd (omega (arith, lt))
room-from (p ∷ ps) zero a lt one has = omega (arith, one, has p)
room-from (p ∷ ps) (suc n) a lt one has = room-from ps n a (omega (arith, lt)) one has

-- the same without the first parts
widens-tail : (p q : WithRoom) (ps qs : List WithRoom) → Widens (p ∷ ps) (q ∷ qs) → Widens ps qs
widens-tail p q ps qs w = record {
  longer = omega (arith, w.longer);
  kept = λ n d lt. w.kept (suc n) d (omega (arith, lt));
  fresh = λ n d le lt. w.fresh (suc n) d (omega (arith, le)) (omega (arith, lt));
}

-- parts that keep their room, under a bound that doesn't fall
pub room-widened : (ps qs : List WithRoom) (a b : ℕ) → Widens ps qs → a ≤ b → (n : ℕ) → get_or (rooms_of ps a) n 0 ≤ get_or (rooms_of qs b) n 0
room-widened [] qs a b w h n = omega arith
room-widened (p ∷ ps) [] a b w h n = absurd (let e = w.longer in omega (arith, e))
room-widened (p ∷ ps) (q ∷ qs) a b w h zero = let e : p.room ≤ q.room = (w.kept 0 p (omega arith)).1 in omega (arith, h, e)
room-widened (p ∷ ps) (q ∷ qs) a b w h (suc n) = room-widened ps qs a b (widens-tail p q ps qs w) h n
