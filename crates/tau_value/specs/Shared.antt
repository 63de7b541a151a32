-- What a list of values holds behind its shared pointer.
use Rattle.std.specs.Prelude.{List, [], Option}
use Rattle.std.specs.Option.{option_map_or}
use Rattle.std.specs.declared.alloc.Global.{Global}
use Rattle.std.specs.declared.sync.Arc.{Arc}

-- the values that are shared, none where nothing is
abbrev pub held : {X : Type 0} → Option (Arc (List X) Global) → List X
held shared = option_map_or (λ a. a.value) shared []
