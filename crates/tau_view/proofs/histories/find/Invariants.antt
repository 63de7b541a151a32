use Rattle.std.proofs.Common.{ℕ, ◌+◌, ◌-◌, ◌≤◌, map, take, drop, length}
use Rattle.tau_view.specs.Entries.{entry_of}
use Rattle.tau_view.specs.Inner.Places.{Between}
use Rattle.tau_view.specs.Stored.{AscendsFrom}
use Rattle.tau_view.proofs.histories.find.Given as goal

abbrev pub invariant-search : goal.invariant-search
invariant-search l = record {
  order : l.low ≤ l.high;
  within : l.high ≤ length l.entries;
  below : Between 0 l.who (take l.low (map entry_of l.entries));
  above : AscendsFrom (l.who + 1) (drop l.high (map entry_of l.entries));
}

abbrev pub decreases-search : goal.decreases-search
decreases-search l = l.high - l.low
