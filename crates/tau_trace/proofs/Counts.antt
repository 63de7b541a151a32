-- Counts of places below a bound.
use Rattle.std.proofs.Common.{◌≡◌, ℕ, zero, suc, ◌+◌, ◌<◌, ◌≤◌, Bool, true, false, cond, ◌⊎◌, inl, inr, ⊎_elim, ◌&&◌, leb, refl, ap, arith, le-leb, leb-false}
use Rattle.tau_trace.specs.Places.{count_below, count_from}

-- one for a test that passes
abbrev one_if : Bool → ℕ
one_if b = cond b 1 0

one_at_most : (b : Bool) → one_if b ≤ 1
one_at_most true = omega arith
one_at_most false = omega arith

pub last_or_below : (j k : ℕ) → j ≤ suc k → (j ≡ suc k) ⊎ (j ≤ k)
last_or_below j k h = grind arith

not_from : (a k : ℕ) → k < a → leb a k ≡ false
not_from a k h = grind (arith, leb-false)

pub count-suc : (test : ℕ → Bool) (k : ℕ) → count_below test (suc k) ≡ count_below test k + cond (test k) 1 0
unfolding count_below
count-suc test k = refl

pub count-zero : (test : ℕ → Bool) → count_below test zero ≡ 0
unfolding count_below
count-zero test = refl

-- tests that agree below k count the same
pub count-same : (p q : ℕ → Bool) (k : ℕ) → ((j : ℕ) → j < k → p j ≡ q j) → count_below p k ≡ count_below q k
unfolding count_below
count-same p q zero e = refl
count-same p q (suc k) e = omega (arith, count-same p q k (λ j h. e j (omega arith)), ap one_if (e k (omega arith)))

-- a count grows with its bound
pub count-grows : (test : ℕ → Bool) (j k : ℕ) → j ≤ k → count_below test j ≤ count_below test k
unfolding count_below
count-grows test j zero h = omega (arith, ap (count_below test) (let e : j ≡ 0 = omega arith in e))
count-grows test j (suc k) h = ⊎_elim (λ e. omega (arith, ap (count_below test) e)) (λ l. omega (arith, count-grows test j k l)) (last_or_below j k h)

pub count_from-suc : (a : ℕ) (test : ℕ → Bool) (k : ℕ) → count_from a test (suc k) ≡ count_from a test k + cond (leb a k && test k) 1 0
unfolding count_below
count_from-suc a test k = refl

-- below its beginning a count is empty
pub count_from-none : (a : ℕ) (test : ℕ → Bool) (k : ℕ) → k ≤ a → count_from a test k ≡ 0
unfolding count_below
count_from-none a test zero h = refl
count_from-none a test (suc k) h = omega (arith, count_from-none a test k (omega arith), ap (λ b. one_if (b && test k)) (not_from a k (omega arith)))

-- a count is at most its bound
pub count-le : (test : ℕ → Bool) (k : ℕ) → count_below test k ≤ k
unfolding count_below
count-le test zero = omega arith
count-le test (suc k) = omega (arith, count-le test k, one_at_most (test k))
