-- What was written so far is the front of the bytes.
use Rattle.std.proofs.Common.{length, take, ◌-◌, ◌≤◌}
use Rattle.std.specs.Io.KnownBytes.{Appends}
use Rattle.tau_io.proofs.writing.write_all_of.Given as goal

abbrev pub invariant-loop-done : goal.invariant-loop-done
invariant-loop-done g l = record {
  in_range : l.done ≤ length l.bytes;
  written : Appends (g.O.Sink.held l.initial.sink) (g.O.Sink.held l.sink) (take l.done l.bytes);
  counted : g.O.Sink.faults l.initial.sink ≤ g.O.Sink.faults l.sink;
}

abbrev pub decreases-loop-done : goal.decreases-loop-done
decreases-loop-done g l = length l.bytes - l.done
