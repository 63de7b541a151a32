-- What the tests of `may_precede` tell.
use Rattle.std.proofs.Common.{◌≡◌, ◌≢◌, ℕ, zero, suc, ◌<◌, ◌≤◌, ◌↔◌, nat_lt, nat_le, Bool, false, IsTrue, List, [], ◌∷◌, ◌++◌, length, take, Some, sym, ap, ◌∙◌, arith}
use Rattle.std.specs.Prelude.{slice_get}
use Rattle.std.proofs.Math.Seq.{take-length}
use Rattle.std.proofs.lemmas.Bool.{ltb-true, lt-ltb, leb-true, le-leb}
use Rattle.tau_history.specs.Timeline.{Timeline, interval}
use Rattle.tau_history.specs.Order.{Precedes}
use Rattle.tau_history.specs.Closed.{IsFront}
use Rattle.tau_history.proofs.Gets.{slice_get-seam}
use Rattle.tau_history.proofs.Order.{IsBelow, fallen, same_point, later_interval, below_of, precedes_of, RanksBelow, by_interval, by_incarnation, by_mode, rank_of}
use Rattle.tau_history.proofs.Chain.{interval_grows}

-- the answer r of the tests on a and b
pub record Tells (r : Bool) (a b : Timeline) : Type 0 where
  pub shorter : IsTrue r → interval a ≤ interval b
  pub needed : Precedes a b → IsTrue r
  pub suffices : IsTrue r → IsFront a.closed b.closed → Precedes a b

split_at : (xs : List ℕ) (k n : ℕ) → slice_get xs k ≡ Some n → (rest : List ℕ) × (xs ≡ take k xs ++ n ∷ rest)
split_at [] k n e = absurd (cc)
split_at (x ∷ xs) zero n e = let h : x ≡ n = cc in (xs, λ i. h i ∷ xs)
split_at (x ∷ xs) (suc k) n e = let p = split_at xs k n e in (p.0, ap (λ ys. x ∷ ys) p.1)

pub tells_longer : (a b : Timeline) → interval b < interval a → Tells false a b
tells_longer a b lt = record { shorter = λ t. absurd (cc); needed = λ p. absurd (omega (arith, interval_grows p)); suffices = λ t f. absurd (cc) }

pub tells_shorter : (a b : Timeline) (m n : ℕ) → interval a < interval b → m ≡ a.last → slice_get b.closed (interval a) ≡ Some n → Tells (nat_le m n) a b
tells_shorter a b m n lt em en = record { shorter = λ t. omega arith; needed = λ p. by_parts (below_of p); suffices = back } where
  by_parts : IsBelow a b → IsTrue (nat_le m n)
  by_parts (fallen e l) = absurd (omega (arith, ap length e))
  by_parts (same_point e l s) = absurd (omega (arith, ap length e))
  by_parts (later_interval k r e l) =
      let same : n ≡ k = (let h = sym en ∙ ap (λ xs. slice_get xs (interval a)) e ∙ slice_get-seam a.closed k r in cc) in
      le-leb m n (omega arith)

  back : IsTrue (nat_le m n) → IsFront a.closed b.closed → Precedes a b
  back t f =
      let le = leb-true m n t in
      let p = split_at b.closed (interval a) n en in
      precedes_of a b (later_interval n p.0 (p.1 ∙ ap (λ xs. xs ++ n ∷ p.0) (sym f.is)) (omega arith))

whole : (a b : Timeline) → interval a ≡ interval b → IsFront a.closed b.closed → a.closed ≡ b.closed
whole a b e f = f.is ∙ ap (λ k. take k b.closed) e ∙ take-length b.closed

pub tells_incarnation : (a b : Timeline) (m n : ℕ) → interval a ≡ interval b → m ≡ a.last → n ≡ b.last → m ≢ n → Tells (nat_lt m n) a b
tells_incarnation a b m n e em en ne = record {
  shorter = λ t. omega arith;
  needed = λ p. by_rank (rank_of a b (below_of p));
  suffices = λ t f. let lt = ltb-true m n t in precedes_of a b (fallen (whole a b e f) (omega arith));
} where
  by_rank : RanksBelow a b → IsTrue (nat_lt m n)
  by_rank (by_interval h) = absurd (omega arith)
  by_rank (by_incarnation h l) = lt-ltb m n (omega arith)
  by_rank (by_mode h l s) = absurd (ne (em ∙ l ∙ sym en))

pub tells_mode : (a b : Timeline) (r : Bool) → interval a ≡ interval b → a.last ≡ b.last → (IsTrue r ↔ (IsTrue a.stable → IsTrue b.stable)) → Tells r a b
tells_mode a b r e l d = record {
  shorter = λ t. omega arith;
  needed = λ p. by_rank (rank_of a b (below_of p));
  suffices = λ t f. precedes_of a b (same_point (whole a b e f) l (d.0 t));
} where
  by_rank : RanksBelow a b → IsTrue r
  by_rank (by_interval h) = absurd (omega arith)
  by_rank (by_incarnation h k) = absurd (omega arith)
  by_rank (by_mode h k s) = d.1 s
