use Rattle.std.proofs.Common.{arith}
use Rattle.tau_sexpr.proofs.FormLemmas.{size_of_list, sizes_more}
use Rattle.tau_sexpr.proofs.trees.+size.Goals as goal

pub Form::size-returns-in-List : goal.Form::size-returns-in-List
Form::size-returns-in-List t c = omega (arith, size_of_list c.args.self.now c.in-List.items c.in-List.is)

pub Forms::size-loop-item-preserved : goal.Forms::size-loop-item-preserved
Forms::size-loop-item-preserved t c =
    omega (arith, sizes_more c.deref-item-items.result.now c.loop-item.item-index c.item-item.result (omega arith) c.item-item.is)
