use Rattle.std.proofs.Common.{[], refl}
use Rattle.std.proofs.lemmas.Result.{on_ok_weaker}
use Rattle.tau_faults.proofs.walk.visit_ends.Goals as goal

pub returns-clause-ends : goal.returns-clause-ends
returns-clause-ends g c = on_ok_weaker c.visit_from.result (λ ends. let all = ends [] refl in record { ends = all.ends; are = all.are; visited = all.visited }) c.visit_from.ensures.ends
