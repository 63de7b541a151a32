use Rattle.std.proofs.Common.{◌+◌, ◌-◌, ◌≤◌, length, drop}
use Rattle.tau_view.specs.Entries.{entries_of}
use Rattle.tau_view.specs.Rules.{merged_in}
use Rattle.tau_view.specs.Stored.{history_in}
use Rattle.tau_view.proofs.Merging.{Merging}
use Rattle.tau_view.proofs.histories.merged.Given as goal

abbrev pub invariant-merge : goal.invariant-merge
invariant-merge l = record {
  ours : l.i ≤ length l.ours;
  theirs : l.j ≤ length l.theirs;
  merging : Merging (merged_in (history_in (entries_of l.ours)) (history_in (entries_of l.theirs))) (entries_of l.all.items) (drop l.i (entries_of l.ours)) (drop l.j (entries_of l.theirs));
}

abbrev pub decreases-merge : goal.decreases-merge
decreases-merge l = (length l.ours - l.i) + (length l.theirs - l.j)
