-- The closed form of the order of histories (docs/rules.md, "Histories").
use Rattle.std.specs.Prelude.{◌≡◌, ℕ, ◌<◌, ◌≤◌, IsTrue, take, slice_get, Some}
use Rattle.tau_history.specs.Timeline.{Timeline, interval}

-- how the parts of two histories lie where the first precedes the second. It is at an earlier interval, the two agree at the
-- intervals before that one, and the second closed it with a number that isn't smaller. Or they agree at all closed intervals,
-- and the first has the smaller number, or the same number and is stable only where the second is
pub data PrecedesByParts (a b : Timeline) : Type 0 where
  by_interval : {n : ℕ} → interval a < interval b → a.closed ≡ take (interval a) b.closed → slice_get b.closed (interval a) ≡ Some n → a.last ≤ n → PrecedesByParts a b
  by_incarnation : a.closed ≡ b.closed → a.last < b.last → PrecedesByParts a b
  by_mode : a.closed ≡ b.closed → a.last ≡ b.last → (IsTrue a.stable → IsTrue b.stable) → PrecedesByParts a b
