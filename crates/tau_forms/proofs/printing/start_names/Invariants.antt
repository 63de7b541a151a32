use Rattle.std.proofs.Common.{◌≡◌, map, take}
use Rattle.tau_forms.proofs.printing.start_names.Given as goal

abbrev pub invariant-loop-start : goal.invariant-loop-start
invariant-loop-start l = l.names ≡ map (λ x. x.name) (take l.start-index l.starts)
