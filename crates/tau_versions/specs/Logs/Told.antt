-- What contracts see of the type `Log`, and what a log says of a run.
use Rattle.std.specs.Prelude.{◌≡◌, ℕ, ◌≤◌, List, Some, slice_get}
use Rattle.tau_points.specs.declared.point.Point.{Point}
use Rattle.tau_trace.specs.Run.{Run}
use Rattle.tau_trace.specs.Histories.{history}
use Rattle.tau_versions.specs.declared.logs.version.Version.{Version}
use Rattle.tau_versions.specs.Logs.Versions.{IsVersionOf, IsLatest}

-- the versions, the takes to whose ranges they point, the incarnations with which the earlier intervals were closed, and
-- how many versions, takes and closed intervals more fit without memory
pub record Told : Type 0 where
  pub versions : List Version
  pub takes : List Point
  pub closed : List ℕ
  pub spare_versions : ℕ
  pub spare_takes : ℕ
  pub spare_closed : ℕ

-- at place a the latest version has the point and the mode of the history
pub record TellsAt (T : Run) (u a : ℕ) (versions : List Version) : Type 0 where
  pub number : ℕ
  pub version : Version
  pub latest : IsLatest versions a number version
  pub tells : IsVersionOf version (history T u a)

-- the log tells the history of u at each place up to n
pub record TellsHistories (T : Run) (u n : ℕ) (log : Told) : Type 0 where
  pub begun : (i : ℕ) (v : Version) → slice_get log.versions i ≡ Some v → v.from ≤ n
  pub told : (a : ℕ) → a ≤ n → TellsAt T u a log.versions
  pub closed_is : log.closed ≡ (history T u n).closed
