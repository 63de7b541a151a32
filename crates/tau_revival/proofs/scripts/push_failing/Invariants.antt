use Rattle.std.proofs.Common.{◌≡◌, ◌++◌}
use Rattle.tau_revival.specs.Revival.{failing_nodes}
use Rattle.tau_revival.proofs.scripts.push_failing.Given as goal

abbrev pub invariant-loop-node : goal.invariant-loop-node
invariant-loop-node l = l.script ≡ l.fn.script ++ failing_nodes l.at l.node
