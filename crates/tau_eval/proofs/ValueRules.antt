-- Lists of values and the values that they stand inside.
use Rattle.tau_value.specs.Val.{items_of-inside, inside-items_of}

pub ruleset listed = (
  items_of-inside,
  inside-items_of,
)
