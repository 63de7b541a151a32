-- The numbers of a list that is its owner's alone, or shared.
use Rattle.std.specs.Vec.{vec_capacity}
use Rattle.tau_versions.specs.Numbers.Kept.{Kept}
use Rattle.tau_versions.specs.declared.numbers.numbers.List.{List}
use Rattle.tau_versions.specs.declared.numbers.numbers.List.TheVariants.{Own, Shared}

abbrev pub kept : List → Kept
kept (Own v) = record { numbers = v.items; room = vec_capacity v }
kept (Shared a) = record { numbers = a.value.items; room = 0 }
