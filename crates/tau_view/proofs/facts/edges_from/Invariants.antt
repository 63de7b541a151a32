use Rattle.std.proofs.Common.{◌≡◌, take}
use Rattle.tau_view.specs.Edges.{edges_to}
use Rattle.tau_view.specs.Stored.{point_in, pair_in}
use Rattle.tau_view.proofs.facts.edges_from.Given as goal

abbrev pub invariant-loop-root : goal.invariant-loop-root
invariant-loop-root l = pair_in l.edges ≡ edges_to l.from (point_in (take l.root-index l.root-items))
