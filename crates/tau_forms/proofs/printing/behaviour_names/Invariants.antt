use Rattle.std.proofs.Common.{◌≡◌, map, take}
use Rattle.tau_forms.proofs.printing.behaviour_names.Given as goal

abbrev pub invariant-loop-behaviour : goal.invariant-loop-behaviour
invariant-loop-behaviour l = l.names ≡ map (λ x. x.name) (take l.behaviour-index l.behaviours)
