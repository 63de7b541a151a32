-- States and saved states of points (docs/definitions.md, "State and saved state").
use Rattle.std.specs.Prelude.{◌≡◌, ℕ, suc, ◌<◌, ◌≤◌, List, Some, slice_get}
use Rattle.tau_points.specs.declared.point.Point.{Point}
use Rattle.tau_value.specs.declared.shared.Value.{Value}
use Rattle.tau_trace.specs.declared.step.Step.TheVariants.{Set}
use Rattle.tau_trace.specs.Run.{Run, step_at, starts, Does}
use Rattle.tau_trace.specs.Numbering.{IsNew}
use Rattle.tau_trace.specs.Histories.{Closes}
use Rattle.tau_trace.specs.Points.{point_at}
use Rattle.tau_past.specs.Carried.{is_set}

-- no Set was made at point q from place a on and before place k
abbrev pub NoSet : Run → Point → ℕ → ℕ → Type 0
NoSet T q a k = (j : ℕ) → a ≤ j → j < k → Does is_set T q.who j → ¬ (q ≡ point_at T q.who j)

-- the value is the state of its transactor at point q, by the steps before place k: that of the last Set at q, or else
-- that which New gave at interval 0, or else what was saved with the interval before; `opening` has the states of starts
mutual
  pub data StateAt (T : Run) (opening : List Value) : Point → ℕ → Value → Type 0 where
    by_set : {q : Point} {j k : ℕ} {v : Value} → step_at T j ≡ Some (Set q.who v) → q ≡ point_at T q.who j → j < k → NoSet T q (suc j) k → StateAt T opening q k v
    by_new : {q : Point} {j by k : ℕ} {v : Value} → (birth : IsNew T j by q.who) → birth.state ≡ v → q.interval ≡ 0 → NoSet T q 0 k → StateAt T opening q k v
    by_save : {q : Point} {i k : ℕ} {v : Value} → q.interval ≡ suc i → SavedWith T opening q.who i v → NoSet T q 0 k → StateAt T opening q k v

  -- the value was saved by transactor t with interval i: its state at the closing point of the interval
  pub data SavedWith (T : Run) (opening : List Value) : ℕ → ℕ → Value → Type 0 where
    at_opening : {t i : ℕ} {v : Value} → t < starts T → i ≡ 0 → slice_get opening t ≡ Some v → SavedWith T opening t i v
    at_checkpoint : {t i j : ℕ} {v : Value} → Closes T t j → (point_at T t j).interval ≡ i → StateAt T opening (point_at T t j) j v → SavedWith T opening t i v
