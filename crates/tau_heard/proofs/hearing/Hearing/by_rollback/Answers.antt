use Rattle.std.proofs.Common.{ap}
use Rattle.tau_trace.specs.Steps.{actor}
use Rattle.tau_heard.proofs.ByKind.{rollback_leads}
use Rattle.tau_heard.proofs.Leading.{last_there}
use Rattle.tau_heard.proofs.hearing.Hearing.by_rollback.Goals as goal

pub returns : goal.returns
returns c =
    let last = last_there c.args.self.now c.args.trace.now.run c.args.step.now c.requires.next c.args.who (ap actor c.requires.kind) in
    rw (c.of_actor.ensures, c.of.ensures) (rollback_leads c.args.self.now c.args.trace.now.run c.args.step.now c.requires.next c.args.who (ap actor c.requires.kind) last.0 c.fallen.result last.1 (c.fallen.ensures last.0 last.1) c.requires.kind)
