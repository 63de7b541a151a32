-- The points of a shared list and one more.
use Rattle.std.specs.Prelude.{List, [], ◌∷◌, ◌++◌, Option}
use Rattle.std.specs.Option.{option_map_or}
use Rattle.std.specs.declared.alloc.Global.{Global}
use Rattle.std.specs.declared.sync.Arc.{Arc}
use Rattle.std.specs.declared.vec.Vec.{Vec}
use Rattle.tau_points.specs.declared.point.Point.{Point}

-- the points of a shared list, none where there is no list
abbrev pub shared : Option (Arc (Vec Point Global) Global) → List Point
shared many = option_map_or (λ a. a.value.items) many []

-- and one more, where there is one
abbrev pub listed : Option (Arc (Vec Point Global) Global) → Option Point → List Point
listed many one = shared many ++ option_map_or (λ p. p ∷ []) one []
