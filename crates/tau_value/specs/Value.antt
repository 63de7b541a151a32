-- The plain data that a value of the program stands for.
use Rattle.tau_value.specs.Val.{Val, unit, truth, int, text, name, list, inside}
use Rattle.tau_value.specs.declared.shared.Value.{Value}
use Rattle.tau_value.specs.declared.shared.Value.TheVariants as values

-- contracts see Text as its bytes, and Values as a list of plain data
abbrev pub val_of : Value → Val
val_of values.Unit = unit
val_of (values.Truth b) = truth b
val_of (values.Int z) = int z
val_of (values.Text t) = text t
val_of (values.Name n) = name n
val_of (values.List vs) = list (inside vs)
