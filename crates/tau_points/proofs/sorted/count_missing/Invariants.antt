use Rattle.std.proofs.Common.{◌≡◌, ◌+◌, ◌-◌, ◌≤◌, length, take}
use Rattle.std.specs.List.{Contains}
use Rattle.tau_points.proofs.sorted.count_missing.Given as goal

abbrev pub invariant-scan : goal.invariant-scan
invariant-scan g l = record {
  within : l.j ≤ length l.others;
  fewer : l.missing ≤ l.j;
  none : l.missing ≡ 0 → (q : _) → Contains (take l.j l.others) q → Contains l.items q;
}

abbrev pub decreases-scan : goal.decreases-scan
decreases-scan g l = (length l.items - l.i) + (length l.others - l.j)
