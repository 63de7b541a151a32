use Rattle.std.proofs.Common.{subst}
use Rattle.tau_trace.specs.Run.{Run}
use Rattle.tau_legal.proofs.ReceiverLemmas.{receivers_of_fitting}
use Rattle.tau_legal.proofs.TraceLemmas.{legal_fitting}
use Rattle.tau_queue.specs.Inner.Index.{IsIndexOf}
use Rattle.tau_queue.proofs.scripted.Scripted.over.Goals as goal

pub index_of-requires : goal.index_of-requires
index_of-requires g c = λ m lt. receivers_of_fitting c.args.legal.system.program c.trace.result.now.run m (legal_fitting c.args.legal.system.program c.trace.result.now.run c.trace.ensures.legal) lt

pub invariant_of-result : goal.invariant_of-result
invariant_of-result g c =
    let index = c.in_ok-index.index in
    subst (λ (T : Run). IsIndexOf T index) c.trace.ensures.run c.in_ok-index.ensures
