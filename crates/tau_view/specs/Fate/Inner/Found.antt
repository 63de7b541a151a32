-- What a search found, and points of a list by their fates.
use Rattle.std.specs.Prelude.{◌≡◌, ◌↔◌, IsFalse, List, Contains}
use Rattle.tau_history.specs.declared.fate.Fate.TheVariants.{Fallen}
use Rattle.tau_points.specs.declared.point.Point.{Point}
use Rattle.tau_view.specs.Held.{Held, Histories, Points, fate_in, is_firm}
use Rattle.tau_view.specs.Past.{PastUpToClosed}

-- the list has the points that are found from a set by a search that stops at Closed points
abbrev pub IsFound : Held → Points → List Point → Type 0
IsFound v from past = (q : Point) → Contains past q ↔ PastUpToClosed v from q

-- a Fallen one
pub record FallenAmong (hs : Histories) (points : List Point) (q : Point) : Type 0 where
  pub among : Contains points q
  pub is_fallen : fate_in hs q ≡ Fallen

-- one that isn't firm
pub record NotFirmAmong (hs : Histories) (points : List Point) (q : Point) : Type 0 where
  pub among : Contains points q
  pub not_firm : IsFalse (is_firm (fate_in hs q))
