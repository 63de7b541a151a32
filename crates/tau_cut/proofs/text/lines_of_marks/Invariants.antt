use Rattle.std.proofs.Common.{◌≡◌, take}
use Rattle.tau_sexpr.specs.Printing.{printed}
use Rattle.tau_cut.specs.Texts.{mark_forms}
use Rattle.tau_cut.proofs.text.lines_of_marks.Given as goal

abbrev pub invariant-loop-mark : goal.invariant-loop-mark
invariant-loop-mark l = l.text.items ≡ printed (mark_forms l.opening (take l.mark-index l.mark-items))
