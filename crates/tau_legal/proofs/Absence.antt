-- Steps that stand nowhere in a run, told by counting.
use Rattle.std.proofs.Common.{◌≡◌, ◌⊎◌, inl, inr, ⊎_elim, ℕ, zero, suc, ◌+◌, ◌-◌, ◌<◌, ◌≤◌, Bool, true, false, cond, IsTrue, IsFalse, Some, refl, sym, ◌∙◌, ap, subst, arith}
use Rattle.std.specs.Prelude.{nat_lt}
use Rattle.std.specs.Option.{option_map_or}
use Rattle.tau_trace.specs.declared.step.Step.{Step}
use Rattle.tau_trace.specs.declared.step.Step.TheVariants.{Fall, Rollback, Trap, Fail}
use Rattle.tau_trace.specs.Steps.{actor}
use Rattle.tau_trace.specs.Run.{Run, step_at, starts, Does}
use Rattle.tau_trace.specs.Places.{count_below}
use Rattle.tau_trace.specs.Histories.{IsLiving, Falls, by_fall, by_rollback, by_trap, by_fail, IsFallingStep}
use Rattle.tau_trace.proofs.Lists.{same_some}
use Rattle.tau_trace.proofs.Counts.{count-suc}
use Rattle.tau_trace.proofs.Counted.{counted, falls_falling}
use Rattle.tau_trace.proofs.Sequences.{cases_last}

pub clash : (b : Bool) → IsTrue b → IsFalse b → ⊥
clash b t f = cc

-- one for a test that passes
abbrev one_if : Bool → ℕ
one_if b = cond b 1 0

fails : (b : Bool) → one_if b ≡ 0 → IsFalse b
fails true e = absurd (omega (arith, e))
fails false e = refl

-- where the count of the places that pass is 0, none passes
pub none_passes : (test : ℕ → Bool) (n : ℕ) → count_below test n ≡ 0 → (j : ℕ) → j < n → IsFalse (test j)
none_passes test zero e j lt = absurd (omega arith)
none_passes test (suc n) e j lt =
    let here : one_if (test n) ≡ 0 = omega (arith, count-suc test n, e) in
    let below : count_below test n ≡ 0 = omega (arith, count-suc test n, e) in
    ⊎_elim (λ s. subst (λ i. IsFalse (test i)) (sym s) (fails (test n) here)) (λ l. none_passes test n below j l) (cases_last j n lt)

-- the step at a place passes the test
abbrev pub passes_at : (Step → Bool) → Run → ℕ → Bool
passes_at test T j = option_map_or test (step_at T j) false

-- no step below place n passes
pub no_step : (test : Step → Bool) (T : Run) (n : ℕ) → count_below (passes_at test T) n ≡ 0 → (j : ℕ) (s : Step) → j < n → step_at T j ≡ Some s → IsFalse (test s)
no_step test T n e j s lt stands =
    let found : passes_at test T j ≡ test s = ap (λ o. option_map_or test o false) stands in
    sym found ∙ none_passes (passes_at test T) n e j lt

-- a step that fails the test
pub not_does : (test : Step → Bool) (T : Run) (t k : ℕ) (s : Step) → step_at T k ≡ Some s → IsFalse (test s) → ¬ Does test T t k
not_does test T t k s e f d =
    let same : s ≡ d.step = same_some (sym e ∙ d.stands) in
    clash (test s) (subst (λ x. IsTrue (test x)) (sym same) d.passes) f

-- the kinds that may be falling steps
abbrev pub may_fall : Step → Bool
may_fall (Fall t m) = true
may_fall (Rollback t) = true
may_fall (Trap t c) = true
may_fall (Fail t) = true
may_fall s = false

-- a falling step is of such a kind
pub record FallsAs (T : Run) (t k : ℕ) : Type 0 where
  pub step : Step
  pub stands : step_at T k ≡ Some step
  pub by : actor step ≡ Some t
  pub passes : IsTrue (may_fall step)

pub falls_as : (T : Run) (t k : ℕ) → Falls T t k → FallsAs T t k
falls_as T t k f = by_kind (falls_falling T t k f) where
  by_kind : IsFallingStep T t k → FallsAs T t k
  by_kind (by_fall {m = m} e) = record { step = Fall t m; stands = e; by = refl; passes = refl }
  by_kind (by_rollback e) = record { step = Rollback t; stands = e; by = refl; passes = refl }
  by_kind (by_trap {c = c} e v) = record { step = Trap t c; stands = e; by = refl; passes = refl }
  by_kind (by_fail e v) = record { step = Fail t; stands = e; by = refl; passes = refl }

-- nothing falls below place n
pub none_falls : (T : Run) (n : ℕ) → count_below (passes_at may_fall T) n ≡ 0 → (t k : ℕ) → k < n → ¬ Falls T t k
none_falls T n e t k lt f =
    let found = falls_as T t k f in
    clash (may_fall found.step) found.passes (no_step may_fall T n e k found.step lt found.stands)

-- no step from place a on passes, of n steps
pub no_step_from : (test : Step → Bool) (T : Run) (a n : ℕ) → count_below (λ i. passes_at test T (a + i)) n ≡ 0 → (j : ℕ) (s : Step) → a ≤ j → j < a + n → step_at T j ≡ Some s → IsFalse (test s)
no_step_from test T a n e j s ge lt stands =
    let there : a + (j - a) ≡ j = omega arith in
    let found : passes_at test T (a + (j - a)) ≡ test s = ap (passes_at test T) there ∙ ap (λ o. option_map_or test o false) stands in
    sym found ∙ none_passes (λ i. passes_at test T (a + i)) n e (j - a) (omega arith)

-- where no step passes before place a and none of the n steps after it, a step that passes stands at a
pub only_place : (test : Step → Bool) (T : Run) (a n : ℕ) → count_below (passes_at test T) a ≡ 0 → count_below (λ i. passes_at test T (suc a + i)) n ≡ 0 → (j : ℕ) (s : Step) → j < suc a + n → step_at T j ≡ Some s → IsTrue (test s) → j ≡ a
only_place test T a n before after j s lt stands passes = by (cases j a) where
  cases : (i k : ℕ) → (i < k) ⊎ ((i ≡ k) ⊎ (k < i))
  cases i k = grind arith

  by : (j < a) ⊎ ((j ≡ a) ⊎ (a < j)) → j ≡ a
  by (inl l) = absurd (clash (test s) passes (no_step test T a before j s l stands))
  by (inr (inl e)) = e
  by (inr (inr g)) = absurd (clash (test s) passes (no_step_from test T (suc a) n after j s (omega arith) lt stands))

-- a start never ends
pub start_living : (T : Run) (t k : ℕ) → nat_lt t (starts T) ≡ true → IsLiving T t k
start_living T t k is j lt e = omega (arith, e.at_opening, (counted T t j).interval_is, ap one_if is)
