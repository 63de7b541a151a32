use Rattle.std.proofs.Common.{◌≡◌, ◌+◌, ◌*◌, map, take}
use Rattle.tau_value.specs.Val.{inside}
use Rattle.tau_value.specs.Sizes.{parts_of, parts_of_all}
use Rattle.tau_value.specs.Value.{val_of}
use Rattle.tau_value.proofs.shared.+same.Given as goal

abbrev pub decreases-Value::same : goal.decreases-Value::same
decreases-Value::same l = 2 * parts_of (val_of l.self.now)

abbrev pub decreases-Values::same : goal.decreases-Values::same
decreases-Values::same l = 2 * parts_of_all (inside l.self.now) + 1

abbrev pub invariant-Values::same-loop-k : goal.invariant-Values::same-loop-k
invariant-Values::same-loop-k l = map val_of (take l.k l.item-items) ≡ map val_of (take l.k l.others)
