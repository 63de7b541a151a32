-- The turn from a place: whose it is, whether it is open, and where it ended.
use Rattle.std.proofs.Common.{◌≡◌, ◌⊎◌, ⊎_elim, ℕ, ◌<◌, Some, None, refl, arith}
use Rattle.std.specs.Prelude.{◌||◌}
use Rattle.tau_trace.specs.declared.step.Step.TheVariants.{Take}
use Rattle.tau_trace.specs.Steps.{ends_turn, is_take}
use Rattle.tau_trace.specs.Run.{Run, Does, step_at, len}
use Rattle.tau_trace.specs.Turns.{Turn, IsOpenTurn}
use Rattle.tau_legal.proofs.TraceLemmas.{below_length}
use Rattle.tau_rules.specs.Answers.{NoTurnFrom, IsTurnEnd, ended}
use Rattle.tau_rules.specs.Inner.Acting.{IsTaker}

-- a step that begins or ends its transactor's turn
abbrev pub Bounds : Run → ℕ → ℕ → Type 0
Bounds T t j = Does (λ s. ends_turn s || is_take s) T t j

-- a Take begins a turn
take_bounds : (T : Run) (t k m : ℕ) → step_at T k ≡ Some (Take t m) → Bounds T t k
take_bounds T t k m e = record { step = Take t m; stands = e; by = refl; passes = refl }

cases : (a b : ℕ) → (a < b) ⊎ ((a ≡ b) ⊎ (b < a))
cases a b = grind arith

-- at most one turn of a transactor is open
pub one_open_turn : (T : Run) (t k p q m n : ℕ) → Turn T t k p m → Turn T t k q n → p ≡ q
one_open_turn T t k p q m n u v = ⊎_elim
    (λ (l : p < q). absurd (u.goes_on q l v.before (take_bounds T t q n v.takes)))
    (λ x. ⊎_elim (λ (e : p ≡ q). e) (λ (l : q < p). absurd (v.goes_on p l u.before (take_bounds T t p m u.takes))) x)
    (cases p q)

-- the turn that is open is the one from a place, exactly where both are the same
pub open_is : (T : Run) (t k p q : ℕ) → IsOpenTurn T t k (Some p) → IsOpenTurn T t k (Some q) → p ≡ q
open_is T t k p q u v = one_open_turn T t k p q u.0 v.0 u.1 v.1

-- and where there is no Take
pub none_without_take : (T : Run) (place : ℕ) → IsTaker T place None → NoTurnFrom T place
none_without_take T place none u m h = none u m h.takes

-- a Take stands within the run
pub taker_within : (T : Run) (t place : ℕ) → IsTaker T place (Some t) → place < len T
taker_within T t place taker = below_length T.steps place (Take t taker.0) taker.1

-- nothing ended the turn of a Take before place k
abbrev pub IsUnbounded : Run → ℕ → ℕ → ℕ → Type 0
IsUnbounded T t place k = (j : ℕ) → place < j → j < k → ¬ Bounds T t j

-- a Take after which nothing ended the turn, opened it
pub still_open : (T : Run) (t place : ℕ) → IsTaker T place (Some t) → IsUnbounded T t place (len T) → IsOpenTurn T t (len T) (Some place)
still_open T t place taker rest = (taker.0, record { before = taker_within T t place taker; takes = taker.1; goes_on = rest })

-- the first step after the Take that bounds the turn ended it
pub turn_ended : (T : Run) (t place k : ℕ) → IsTaker T place (Some t) → place < k → Bounds T t k → IsUnbounded T t place k → IsTurnEnd T place k
turn_ended T t place k taker after bounds none = ended taker.1 after bounds none
