-- The records so far, and that the rest of the bytes stands behind them.
use Rattle.std.proofs.Common.{◌≡◌, ◌<◌, ◌≤◌, ◌-◌, ◌++◌, length, drop, map, All}
use Rattle.std.specs.Prelude.{◌^◌}
use Rattle.tau_journal.specs.Records.{written}
use Rattle.tau_journal.specs.Places.{record_at, end_of}
use Rattle.tau_journal.proofs.records.scan.Given as goal

abbrev pub invariant-loop-bytes : goal.invariant-loop-bytes
invariant-loop-bytes l = record {
  in_bytes : l.gate < length l.bytes.items;
  so_far : l.bytes.items ≡ written (map (record_at l.bytes.items) l.places.items) ++ drop l.gate l.bytes.items;
  gate_is : l.gate ≡ length (written (map (record_at l.bytes.items) l.places.items));
  short : All (λ r. length r < 2 ^ 32) (map (record_at l.bytes.items) l.places.items);
  whole : All (λ p. end_of p ≤ length l.bytes.items) l.places.items;
}

abbrev pub decreases-loop-bytes : goal.decreases-loop-bytes
decreases-loop-bytes l = length l.bytes.items - l.gate
