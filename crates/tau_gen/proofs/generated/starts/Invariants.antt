use Rattle.std.proofs.Common.{◌≡◌, map}
use Rattle.std.specs.List.{range_with_len}
use Rattle.tau_gen.specs.Generated.{start_at}
use Rattle.tau_gen.proofs.generated.starts.Given as goal

abbrev pub invariant-loop-number : goal.invariant-loop-number
invariant-loop-number l = l.starts ≡ map start_at (range_with_len 0 l.number)
