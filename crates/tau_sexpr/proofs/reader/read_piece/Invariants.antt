use Rattle.std.proofs.Common.{◌≡◌, ◌-◌, ◌≤◌, length, drop}
use Rattle.tau_sexpr.specs.Inner.Reader.{stack_of, outside, run}
use Rattle.tau_sexpr.specs.Rest.{forms_from}
use Rattle.tau_sexpr.proofs.reader.read_piece.Given as goal

abbrev pub invariant-loop-at : goal.invariant-loop-at
invariant-loop-at l = record {
  low : l.start ≤ l.at;
  high : l.at ≤ length l.bytes;
  read : forms_from l.bytes l.start ≡ run (drop l.at l.bytes) l.at outside (stack_of l.held);
}

abbrev pub decreases-loop-at : goal.decreases-loop-at
decreases-loop-at l = length l.bytes - l.at
