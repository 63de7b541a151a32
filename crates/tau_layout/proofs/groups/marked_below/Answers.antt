use Rattle.std.proofs.Common.{arith, sym, add-one}
use Rattle.tau_layout.proofs.GroupLemmas.{marked_more, marked_zero, one_if_most}
use Rattle.tau_layout.proofs.groups.marked_below.Goals as goal

pub overflow_add-count : goal.overflow_add-count
overflow_add-count c = omega (arith, c.one_if-count.ensures, one_if_most c.args.marks.now c.loop-number.number)

pub loop-number-init : goal.loop-number-init
loop-number-init c = (sym (marked_zero c.args.marks.now), omega arith)

pub loop-number-preserved : goal.loop-number-preserved
loop-number-preserved c = (
  omega (arith, c.one_if-count.ensures, rw (← add-one) at (marked_more c.args.marks.now c.loop-number.number)),
  omega (arith, c.one_if-count.ensures, one_if_most c.args.marks.now c.loop-number.number),
)
