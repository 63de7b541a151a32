-- What a Set adds to a log.
use Rattle.std.specs.Prelude.{◌≡◌, ◌≢◌, ◌⊎◌, ◌+◌, ◌≤◌, Bool, List, ◌++◌, length, Contains}
use Rattle.tau_history.specs.Timeline.{Timeline}
use Rattle.tau_points.specs.declared.point.Point.{Point}
use Rattle.tau_versions.specs.declared.logs.version.Version.{Version}
use Rattle.tau_versions.specs.Logs.Versions.{IsVersionOf}
use Rattle.tau_versions.specs.Logs.Told.{Told}
use Rattle.tau_versions.specs.Logs.Takes.{taken}
use Rattle.tau_versions.specs.Roots.Closing.{IsKept}

-- of the roots, the points that are neither the own one nor taken before
pub record AreFresh (roots : List Point) (me : Point) (taken fresh : List Point) : Type 0 where
  pub among : (q : Point) → Contains fresh q → Contains roots q × (q ≢ me)
  pub all : (q : Point) → Contains roots q → q ≢ me → Contains taken q ⊎ Contains fresh q
  pub few : length fresh ≤ length roots

-- with the points at the end of the log's takes, the second version's point has taken what the first one's keeps, and the fresh ones
pub record IsAdding (unclosed : Point → Bool) (l : Told) (old : Version) (fresh points : List Point) (new : Version) : Type 0 where
  pub kept : List Point
  pub is_kept : IsKept unclosed (taken l.takes old) kept
  pub taken_is : taken (l.takes ++ points) new ≡ kept ++ fresh
  pub ordered : new.first ≤ new.last
  pub within : new.last ≤ length (l.takes ++ points)
  pub few : length points ≤ length (taken l.takes old) + length fresh
  pub tells : (g : Timeline) → IsVersionOf old g → IsVersionOf new g
