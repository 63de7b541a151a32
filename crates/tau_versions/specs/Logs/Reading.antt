-- What a log tells by the version with a number.
use Rattle.std.specs.Prelude.{ℕ, Option, Some, None, List, [], slice_get, nat_lt, if◌then◌else◌, ◌==◌}
use Rattle.std.specs.Option.{option_map_or}
use Rattle.tau_history.specs.Fates.{fate_at}
use Rattle.tau_history.specs.declared.fate.Fate.{Fate}
use Rattle.tau_history.specs.declared.fate.Fate.TheVariants.{Ahead}
use Rattle.tau_points.specs.declared.point.Point.{Point}
use Rattle.tau_versions.specs.declared.logs.version.Version.{Version}
use Rattle.tau_versions.specs.Logs.Takes.{taken}
use Rattle.tau_versions.specs.Logs.Told.{Told}

-- the incarnation number of an interval by a version: that with which it was closed, or the present one
abbrev pub number_by : Version → List ℕ → ℕ → Option ℕ
number_by v closed i = if nat_lt i v.interval then slice_get closed i else (if i == v.interval then Some v.incarnation else None)

-- the fate of the point at interval i and incarnation m by a version
abbrev pub fate_by : Version → List ℕ → ℕ → ℕ → Fate
fate_by v closed i m = fate_at (i == v.interval) v.stable m (number_by v closed i)

-- the same by the version with this number; Ahead where there is none
abbrev pub fate_told : Told → ℕ → ℕ → ℕ → Fate
fate_told log number i m = option_map_or (λ v. fate_by v log.closed i m) (slice_get log.versions number) Ahead

-- what the point of the version with this number has taken; nothing where there is none
abbrev pub takes_told : Told → ℕ → List Point
takes_told log number = option_map_or (taken log.takes) (slice_get log.versions number) []
