-- The history of a transactor at a place, falling steps, ended transactors (docs/definitions.md, "History", "Falling step", "End").
use Rattle.std.specs.Prelude.{◌≡◌, ◌⊎◌, ◌↔◌, ℕ, zero, suc, ◌+◌, ◌<◌, ◌≤◌, Bool, false, true, Option, Some, None, if◌then◌else◌, ◌==◌, ◌&&◌, nat_lt, IsTrue, IsFalse}
use Rattle.std.specs.Option.{option_map_or}
use Rattle.tau_history.specs.Timeline.{Timeline, opening, newborn, interval, Move, keep, stabilize, close, fall, moved}
use Rattle.tau_history.specs.Fates.{IsOwn}
use Rattle.tau_trace.specs.declared.step.Step.{Step}
use Rattle.tau_trace.specs.declared.step.Step.TheVariants.{Fall, Stabilize, Checkpoint, Rollback, Trap, Fail}
use Rattle.tau_trace.specs.Steps.{actor, is_checkpoint}
use Rattle.tau_trace.specs.Run.{Run, step_at, starts}
use Rattle.tau_trace.specs.Places.{count_below, count_from}

-- the move that a step makes its own transactor's history make; a Trap or a Fail falls only while volatile
abbrev pub move_of : Bool → Step → Move
move_of stable (Stabilize t) = stabilize
move_of stable (Checkpoint t) = close
move_of stable (Fall t m) = fall
move_of stable (Rollback t) = fall
move_of stable (Trap t c) = if stable then keep else fall
move_of stable (Fail t) = if stable then keep else fall
move_of stable s = keep

-- the step is one of transactor t
abbrev pub is_by : ℕ → Step → Bool
is_by t s = option_map_or (λ u. u == t) (actor s) false

-- the move of t's history at a place where this step, or none, stands
abbrev pub move_by : ℕ → Bool → Option Step → Move
move_by t stable None = keep
move_by t stable (Some s) = if is_by t s then move_of stable s else keep

-- the history with which transactor t opens
abbrev pub opened : Run → ℕ → Timeline
opened T t = if nat_lt t (starts T) then opening else newborn

-- the history of t at place k: each earlier step of t made it move
unfoldable pub history : Run → ℕ → ℕ → Timeline
history T t zero = opened T t
history T t (suc k) = moved (move_by t (history T t k).stable (step_at T k)) (history T t k)

-- the move of t's history at place k
abbrev pub move_at : Run → ℕ → ℕ → Move
move_at T t k = move_by t (history T t k).stable (step_at T k)

-- a falling step of t stands at place k
abbrev pub Falls : Run → ℕ → ℕ → Type 0
Falls T t k = move_at T t k ≡ fall

-- a Checkpoint of t stands at place k
abbrev pub Closes : Run → ℕ → ℕ → Type 0
Closes T t k = step_at T k ≡ Some (Checkpoint t)

-- a falling step made while t was at interval 0 ends t
pub record EndsAt (T : Run) (t k : ℕ) : Type 0 where
  pub falls : Falls T t k
  pub at_opening : interval (history T t k) ≡ 0

-- t has ended at place k
pub record Ended (T : Run) (t k : ℕ) : Type 0 where
  pub place : ℕ
  pub before : place < k
  pub ends : EndsAt T t place

-- t has not ended at place k
abbrev pub IsLiving : Run → ℕ → ℕ → Type 0
IsLiving T t k = (j : ℕ) → j < k → ¬ EndsAt T t j

-- Histories told by counting steps, from here on; that both are the same is a law.

-- a falling step is a Fall, a Rollback, or a Trap or a Fail of a transactor that is volatile there
pub data IsFallingStep (T : Run) (t k : ℕ) : Type 0 where
  by_fall : {m : ℕ} → step_at T k ≡ Some (Fall t m) → IsFallingStep T t k
  by_rollback : step_at T k ≡ Some (Rollback t) → IsFallingStep T t k
  by_trap : {c : ℕ} → step_at T k ≡ Some (Trap t c) → IsFalse (history T t k).stable → IsFallingStep T t k
  by_fail : step_at T k ≡ Some (Fail t) → IsFalse (history T t k).stable → IsFallingStep T t k

abbrev pub is_fall : Move → Bool
is_fall fall = true
is_fall m = false

abbrev pub is_close : Move → Bool
is_close close = true
is_close m = false

-- the place after the last Checkpoint of t before place k, and 0 where there is none
pub record IsSinceCheckpoint (T : Run) (t k a : ℕ) : Type 0 where
  pub within : a ≤ k
  pub begins : (a ≡ 0) ⊎ ((j : ℕ) × (a ≡ suc j) × Closes T t j)
  pub none_later : (j : ℕ) → a ≤ j → j < k → ¬ Closes T t j

-- a Stabilize of t stands before place k, and after every Checkpoint and falling step of t before k
pub record IsStabilized (T : Run) (t k : ℕ) : Type 0 where
  pub place : ℕ
  pub before : place < k
  pub stabilizes : step_at T place ≡ Some (Stabilize t)
  pub latest : (j : ℕ) → j < k → Closes T t j ⊎ IsFallingStep T t j → j < place

-- the interval is the number of Checkpoints, and one more for a start; the incarnation is the number of falling steps
-- after the last Checkpoint; stable is as above
pub record IsCounted (T : Run) (t k : ℕ) : Type 0 where
  pub falling : Falls T t k ↔ IsFallingStep T t k
  pub interval_is : interval (history T t k) ≡ count_below (λ j. is_close (move_at T t j)) k + (if nat_lt t (starts T) then 1 else 0)
  pub closing : Closes T t k ↔ (move_at T t k ≡ close)
  pub since : ℕ
  pub since_is : IsSinceCheckpoint T t k since
  pub incarnation_is : (history T t k).last ≡ count_from since (λ j. is_fall (move_at T t j)) k
  pub stable_is : IsTrue (history T t k).stable ↔ IsStabilized T t k
