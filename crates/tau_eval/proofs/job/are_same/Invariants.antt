use Rattle.std.proofs.Common.{◌≡◌, map, take}
use Rattle.tau_value.specs.Value.{val_of}
use Rattle.tau_eval.proofs.job.are_same.Given as goal

abbrev pub invariant-loop-k : goal.invariant-loop-k
invariant-loop-k l = map val_of (take l.k l.one) ≡ map val_of (take l.k l.two)
