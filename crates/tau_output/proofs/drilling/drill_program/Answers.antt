use Rattle.std.proofs.lemmas.Result.{IfOk-weaker}
use Rattle.tau_output.proofs.drilling.drill_program.Goals as goal

pub returns : goal.returns
returns c = IfOk-weaker c.drill.result _ _ (λ o drills. drills c.in_ok-program.ensures.program) c.drill.ensures
