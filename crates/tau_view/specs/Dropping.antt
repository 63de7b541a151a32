-- Tests on edges and roots by the fates of their points.
use Rattle.std.specs.Prelude.{Bool}
use Rattle.tau_history.specs.declared.fate.Fate.{Fate}
use Rattle.tau_points.specs.declared.point.Point.{Point}
use Rattle.tau_view.specs.Held.{Histories, fate_in}
use Rattle.tau_view.specs.Trim.{EdgeTest, RootTest}

-- by the fate of the source and that of the target
abbrev pub edges_by : (Fate → Fate → Bool) → EdgeTest
edges_by test hs p q = test (fate_in hs p) (fate_in hs q)

abbrev pub roots_by : (Fate → Bool) → RootTest
roots_by test hs q = test (fate_in hs q)
