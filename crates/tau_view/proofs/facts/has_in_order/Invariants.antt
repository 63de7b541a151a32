use Rattle.std.proofs.Common.{◌≤◌, length, take}
use Rattle.tau_points.specs.Members.{HasAll}
use Rattle.tau_view.proofs.facts.has_in_order.Given as goal

abbrev pub invariant-loop-pair : goal.invariant-loop-pair
invariant-loop-pair l = record {
  within : l.found ≤ length l.theirs;
  has : HasAll l.ours (take l.found l.theirs);
}
