use Rattle.std.proofs.Common.{◌≡◌, ◌≤◌, take}
use Rattle.tau_layout.specs.Lanes.{longest_name}
use Rattle.tau_layout.proofs.groups.longest_name.Given as goal

abbrev pub invariant-loop-lane : goal.invariant-loop-lane
invariant-loop-lane l = (l.longest ≡ longest_name l.names (take l.lane-index l.lanes)) × (l.longest ≤ 12)
