-- The views before the first step.
use Rattle.std.specs.Prelude.{◌≡◌, ℕ, Option, Some, List, length, slice_get}
use Rattle.tau_history.specs.Timeline.{opening}
use Rattle.tau_view.specs.Held.{Held}
use Rattle.tau_view.specs.Rules.{nothing, noted}
use Rattle.tau_view.specs.Trim.{EdgeTest, RootTest, trim}

-- so many views, each of a start that has heard of itself alone
pub record AreStarts (de : EdgeTest) (dr : RootTest) (own : List Held) (count : ℕ) : Type 0 where
  pub starts : length own ≡ count
  pub each : (t : ℕ) (h : Held) → slice_get own t ≡ Some h → h ≡ trim de dr (noted t opening nothing)

-- so many views, each of a post that has heard of nothing
pub record ArePosts (de : EdgeTest) (dr : RootTest) (letters : List (Option Held)) (count : ℕ) : Type 0 where
  pub posts : length letters ≡ count
  pub letter : (m : ℕ) (o : Option Held) → slice_get letters m ≡ Some o → o ≡ Some (trim de dr nothing)
