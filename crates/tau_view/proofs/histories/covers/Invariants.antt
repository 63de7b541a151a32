use Rattle.std.proofs.Common.{◌+◌, ◌-◌, ◌≤◌, length}
use Rattle.tau_view.proofs.Merging.{Covered}
use Rattle.tau_view.proofs.histories.covers.Given as goal

abbrev pub invariant-compare : goal.invariant-compare
invariant-compare l = record {
  ours : l.i ≤ length l.ours;
  theirs : l.j ≤ length l.theirs;
  covered : Covered l.ours l.theirs l.j;
}

abbrev pub decreases-compare : goal.decreases-compare
decreases-compare l = (length l.ours - l.i) + (length l.theirs - l.j)
