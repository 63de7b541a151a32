use Rattle.std.proofs.Common.{◌≡◌, map}
use Rattle.std.specs.List.{range_with_len}
use Rattle.tau_tree.specs.Code.{start}
use Rattle.tau_tree.specs.Expr.{codes_of}
use Rattle.tau_gen.proofs.hop.all_starts.Given as goal

abbrev pub invariant-loop-number : goal.invariant-loop-number
invariant-loop-number l = codes_of l.exprs ≡ map start (range_with_len 0 l.number)
