use Rattle.std.proofs.Common.{arith}
use Rattle.tau_trace.proofs.Indexing.{born-le}
use Rattle.tau_past.proofs.NextTables.{born_next}
use Rattle.tau_past.proofs.noting.born_after.Goals as goal

pub overflow_add-result : goal.overflow_add-result
overflow_add-result c =
    let T = c.args.trace.now.run in
    omega (arith, c.requires.born, born-le T c.args.place, c.requires.place, c.requires.well_formed.few_steps, c.requires.well_formed.opening.few_names)

pub returns-then-is_new_at : goal.returns-then-is_new_at
returns-then-is_new_at c =
    rw c.if-is_new_at.true at (born_next c.args.trace.now.run c.args.place c.args.born c.is_new_at.result c.is_new_at.ensures c.requires.born)

pub returns-else-is_new_at : goal.returns-else-is_new_at
returns-else-is_new_at c =
    rw c.if-is_new_at.false at (born_next c.args.trace.now.run c.args.place c.args.born c.is_new_at.result c.is_new_at.ensures c.requires.born)
