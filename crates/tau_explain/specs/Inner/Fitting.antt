-- The numbers of a point of a chain fit their types.
use Rattle.std.specs.Prelude.{ℕ, ◌<◌, ◌^◌, Option, Some, None}
use Rattle.tau_explain.specs.declared.chains.chained.Chained.{Chained}

-- the place, if there is one, fits u32
abbrev pub PlaceFits : Option ℕ → Type 0
PlaceFits (Some place) = place < 2 ^ 32
PlaceFits None = Unit {0}

-- each number of a point of a chain fits u32
abbrev pub Fits : Chained → Type 0
Fits c = (c.point.who < 2 ^ 32) × (c.point.interval < 2 ^ 32) × (c.point.incarnation < 2 ^ 32) × PlaceFits c.by
