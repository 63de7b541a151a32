-- What came so far is the front of the room.
use Rattle.std.proofs.Common.{take, vec_len, vec_capacity, ◌-◌, ◌≤◌}
use Rattle.std.specs.Io.KnownBytes.{Consumes}
use Rattle.tau_io.proofs.reading.fill.Given as goal

abbrev pub invariant-loop-filled : goal.invariant-loop-filled
invariant-loop-filled g l = record {
  in_limit : l.filled ≤ l.limit;
  in_bytes : l.filled ≤ vec_len l.bytes;
  in_room : vec_len l.bytes ≤ l.limit;
  room : l.limit ≤ vec_capacity l.bytes;
  came : Consumes (g.I.Source.left l.initial.source) (g.I.Source.left l.source) (take l.filled l.bytes.items);
  counted : g.I.Source.faults l.initial.source ≤ g.I.Source.faults l.source;
}

abbrev pub decreases-loop-filled : goal.decreases-loop-filled
decreases-loop-filled g l = l.limit - l.filled
