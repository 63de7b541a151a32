use Rattle.std.proofs.Common.{ℕ, arith, length-take, length-drop}
use Rattle.tau_io.proofs.Steps.{Appends-more}
use Rattle.tau_io.proofs.writing.write_all_of.Goals as goal

pub loop-done-preserved : goal.loop-done-preserved
loop-done-preserved g c = record {
  in_range = omega (arith, length-take {A = ℕ}, length-drop {A = ℕ}, c.in-Bytes.ensures.count.1);
  written = Appends-more _ _ _ c.args.bytes.now c.loop-done.done c.in-Bytes.count c.loop-done.invariant.written c.in-Bytes.ensures.bytes;
  counted = omega (arith, c.in-Bytes.ensures.never_falls);
}
