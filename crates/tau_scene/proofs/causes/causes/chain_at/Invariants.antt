use Rattle.tau_scene.proofs.Causing.{NoneOut}
use Rattle.tau_scene.proofs.causes.causes.chain_at.Given as goal

abbrev pub invariant-loop-mark : goal.invariant-loop-mark
invariant-loop-mark l = NoneOut l.mark-items l.place l.mark-index
