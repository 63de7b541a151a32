use Rattle.std.proofs.Common.{◌≡◌, map, take}
use Rattle.tau_value.specs.Value.{val_of}
use Rattle.tau_eval.proofs.job.copies_of.Given as goal

abbrev pub invariant-loop-value : goal.invariant-loop-value
invariant-loop-value l = map val_of l.copies.items ≡ map val_of (take l.value-index l.values)
