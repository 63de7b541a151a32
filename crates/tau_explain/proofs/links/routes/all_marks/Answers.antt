use Rattle.std.proofs.Common.{arith}
use Rattle.tau_explain.proofs.SourceLemmas.{all_marked}
use Rattle.tau_explain.proofs.links.routes.all_marks.Goals as goal

pub returns-clause-marked : goal.returns-clause-marked
returns-clause-marked c = λ j lt. all_marked _ c.in_ok-marks.marks.items (c.in_ok-marks.ensures.items_if_clones_equal (λ y h. h)) j (omega (arith, lt, c.len.ensures))
