use Rattle.std.proofs.Common.{subst}
use Rattle.tau_queue.specs.Flight.{AreDeliverable}
use Rattle.tau_queue.specs.ScriptedRun.{ScriptedRun}
use Rattle.tau_queue.proofs.DeliverableLemmas.{are_deliverable}
use Rattle.tau_queue.proofs.scripted.Scripted.system.Goals as goal

pub returns-clause-messages : goal.returns-clause-messages
returns-clause-messages g c =
    let s = c.self.inside in
    subst (λ (r : ScriptedRun). AreDeliverable r.system.run r.messages) c.self.view_is
    (are_deliverable s.legal.system.run c.system.ensures.well_formed s.index.mailboxes.letters s.index.mailboxes.busy c.self.invariant.letters_are c.self.invariant.busy_are)
