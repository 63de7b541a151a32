use Rattle.tau_cut.proofs.LineLemmas.{PutsRows}
use Rattle.tau_cut.proofs.state_lines.put_states.Given as goal

abbrev pub invariant-loop-who : goal.invariant-loop-who
invariant-loop-who l = PutsRows l.trace.run l.states l.who l.initial.out.items l.out.items
