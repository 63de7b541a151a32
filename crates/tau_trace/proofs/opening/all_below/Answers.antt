use Rattle.std.proofs.Common.{refl, arith}
use Rattle.tau_trace.proofs.NamePlaces.{all_from_each}
use Rattle.tau_trace.proofs.opening.all_below.Goals as goal

pub returns : goal.returns
returns c = (λ t. all_from_each c.args.numbers.now c.args.bound (λ k l. c.loop-number.invariant k (omega arith)), λ h. refl)
