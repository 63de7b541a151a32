use Rattle.std.proofs.Common.{subst}
use Rattle.tau_legal.specs.Traces.{Fitting}
use Rattle.tau_legal.proofs.TraceLemmas.{legal_fitting}
use Rattle.tau_queue.specs.ScriptedRun.{ScriptedRun}
use Rattle.tau_queue.proofs.scripted.Scripted.turns.Goals as goal

pub returns-clause-fitting : goal.returns-clause-fitting
returns-clause-fitting g c =
    let s = c.self.inside in
    subst (λ (r : ScriptedRun). Fitting r.system.program r.system.run) c.self.view_is (subst (Fitting s.legal.system.program) c.trace-trace.ensures.run (legal_fitting s.legal.system.program c.trace-trace.result.now.run c.trace-trace.ensures.legal))
