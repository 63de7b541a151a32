use Rattle.std.proofs.Common.{take}
use Rattle.tau_verdicts.specs.Doomed.{flag_of, takers_of}
use Rattle.tau_verdicts.specs.Noting.{AreAdded, AreListed}
use Rattle.tau_verdicts.proofs.noting.note_all.Given as goal

-- the points so far are listed
abbrev pub invariant-loop-point : goal.invariant-loop-point
invariant-loop-point l = record {
  added : AreAdded (flag_of l.doomed) l.taker (takers_of l.fn.takers.items) (takers_of l.takers.items);
  listed : AreListed l.logs (takers_of l.takers.items) l.taker (take l.point-index l.points);
}
