use Rattle.std.proofs.Common.{◌≡◌, ◌≤◌, map, drop, length, None}
use Rattle.tau_value.specs.Value.{val_of}
use Rattle.tau_eval.specs.Meaning.{nearest}
use Rattle.tau_eval.proofs.scopes.find_in.Given as goal

abbrev pub invariant-loop-below : goal.invariant-loop-below
invariant-loop-below l =
    record { within : l.below ≤ length l.bindings; unbound : nearest l.name (map (λ b. (b.name.now, val_of b.value)) (drop l.below l.bindings)) ≡ None }

abbrev pub decreases-loop-below : goal.decreases-loop-below
decreases-loop-below l = l.below
