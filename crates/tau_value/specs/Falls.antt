-- The measure of a recursion over values: what a list holds is smaller than the list.
use Rattle.std.specs.Prelude.{◌+◌, ◌*◌, ◌≤◌, List, [], ◌∷◌, map, Option, None, Some}
use Rattle.std.specs.declared.alloc.Global.{Global}
use Rattle.std.specs.declared.sync.Arc.{Arc}
use Rattle.std.specs.declared.vec.Vec.{Vec}
use Rattle.std.proofs.Common.{arith}
use denote.Param.Weighed.{most}
use Rattle.tau_value.specs.Shared.{held}
use Rattle.tau_value.specs.Sizes.{parts_of, all_parts}
use Rattle.tau_value.specs.Value.{val_of}
use Rattle.tau_value.specs.declared.shared.Value.{Value}
use Rattle.tau_value.specs.declared.shared.Value.TheVariants as values
use Rattle.tau_value.specs.declared.shared.ValuesAndSizes.{ValuesAndSizes}
use Rattle.tau_value.specs.declared.shared.Values.TheDeep.{deep-Value}
use Rattle.tau_value.specs.declared.shared.Values.TheShapes.{weighed-Values-shared}

pub deep_le_parts : (v : Value) → deep-Value v ≤ 2 * parts_of (val_of v)
deep_le_parts values.Unit = omega arith
deep_le_parts (values.Truth b) = omega arith
deep_le_parts (values.Int z) = omega arith
deep_le_parts (values.Text t) = omega arith
deep_le_parts (values.Name n) = omega arith
deep_le_parts (values.List vs) = omega arith

pub most_le_parts : (vs : List Value) → most deep-Value vs ≤ 2 * all_parts (map val_of vs)
most_le_parts [] = omega arith
most_le_parts (v ∷ vs) = omega (arith, deep_le_parts v, most_le_parts vs)

pub items_fall : (items : Vec Value Global) → most deep-Value items.items ≤ 2 * all_parts (map val_of items.items)
items_fall items = most_le_parts items.items

pub shared_falls : (shared : Option (Arc ValuesAndSizes Global)) → weighed-Values-shared.weight ValuesAndSizes (λ vs. 2 * all_parts vs + 1) shared ≤ 2 * all_parts (held shared) + 1
shared_falls None = omega arith
shared_falls (Some a) = omega arith
