use Rattle.std.proofs.Common.{◌≡◌, map, take}
use Rattle.tau_script.proofs.openings.homes.Given as goal

abbrev pub invariant-loop-start : goal.invariant-loop-start
invariant-loop-start l = l.homes ≡ map (λ x. x.node) (take l.start-index l.starts)
