use Rattle.std.proofs.Common.{◌≡◌, ◌++◌, take}
use Rattle.tau_view.specs.Entries.{entries_of}
use Rattle.tau_view.proofs.histories.append.Given as goal

abbrev pub invariant-loop-entry : goal.invariant-loop-entry
invariant-loop-entry l = entries_of l.all.items ≡ entries_of l.initial.all.items ++ entries_of (take l.entry-index l.entries)
