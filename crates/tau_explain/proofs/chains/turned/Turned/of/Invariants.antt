use Rattle.std.proofs.Common.{◌≡◌, take, map}
use Rattle.tau_points.specs.declared.point.Point.{Point}
use Rattle.tau_explain.proofs.chains.turned.Turned.of.Given as goal

abbrev pub invariant-loop-pair : goal.invariant-loop-pair
invariant-loop-pair l = l.pairs.items ≡ map (λ (x : Point × Point). (x.1, x.0)) (take l.pair-index l.pair-items)
