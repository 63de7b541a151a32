use Rattle.std.proofs.Common.{◌≡◌, map, take}
use Rattle.tau_states.specs.Effects.{started}
use Rattle.tau_states.proofs.states.started_records.Given as goal

abbrev pub invariant-loop-start : goal.invariant-loop-start
invariant-loop-start l = l.records.items ≡ map (λ s. started s.state) (take l.start-index l.starts)
