-- What the versions of a transactor say of its histories.
use Rattle.std.specs.Prelude.{◌≡◌, ℕ, ◌<◌, ◌≤◌, List, Some, slice_get}
use Rattle.tau_history.specs.Timeline.{Timeline, interval}
use Rattle.tau_versions.specs.declared.logs.version.Version.{Version}

-- the version has the point and the mode of the history
pub record IsVersionOf (v : Version) (h : Timeline) : Type 0 where
  pub interval_is : v.interval ≡ interval h
  pub incarnation_is : v.incarnation ≡ h.last
  pub stable_is : v.stable ≡ h.stable

-- of these versions v, with number i, is the latest at place a
pub record IsLatest (versions : List Version) (a i : ℕ) (v : Version) : Type 0 where
  pub stands : slice_get versions i ≡ Some v
  pub begun : v.from ≤ a
  pub none_later : (j : ℕ) (w : Version) → i < j → slice_get versions j ≡ Some w → a < w.from
