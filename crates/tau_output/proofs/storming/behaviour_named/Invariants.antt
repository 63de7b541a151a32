use Rattle.tau_output.proofs.StormLemmas.{IsUnnamed}
use Rattle.tau_output.proofs.storming.behaviour_named.Given as goal

abbrev pub invariant-loop-number : goal.invariant-loop-number
invariant-loop-number l = IsUnnamed l.program l.name l.number
