use Rattle.std.proofs.Common.{◌≡◌, map, take}
use Rattle.tau_trace.specs.Tracking.{opened_at}
use Rattle.tau_trace.proofs.transactors.Transactors.open.Given as goal

abbrev pub invariant-loop-home : goal.invariant-loop-home
invariant-loop-home l = (l.transactors.transactors ≡ map opened_at (take l.home-index l.homes)) × (l.transactors.nodes ≡ l.nodes)
