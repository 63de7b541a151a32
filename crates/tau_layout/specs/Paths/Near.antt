-- Where spots and the middles of lanes may stand, so that sums with them fit.
use Rattle.std.specs.Prelude.{ℕ, ◌^◌, ◌<◌, ◌≤◌}
use Rattle.tau_layout.specs.declared.paths.spots.Spot.{Spot}
use Rattle.tau_layout.specs.declared.paths.sources.Source.{Source}
use Rattle.tau_layout.specs.declared.paths.sources.Source.TheVariants.{Drawn}

-- the middle of a lane stands in the picture
abbrev pub IsNearX : ℕ → Type 0
IsNearX x = (386 ≤ x) × (x < 2 ^ 50)

pub record IsNear (p : Spot) : Type 0 where
  pub left : 370 ≤ p.x
  pub right : p.x < 2 ^ 51
  pub high : 124 ≤ p.y
  pub low : p.y < 2 ^ 51

-- so does the sender, where it is drawn
abbrev pub IsNearSource : Source → Type 0
IsNearSource (Drawn s) = IsNear s.spot
IsNearSource s = Unit {0}
