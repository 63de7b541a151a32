use Rattle.std.proofs.Common.{ap}
use Rattle.tau_trace.specs.Steps.{actor}
use Rattle.tau_heard.proofs.ByKind.{void_leads}
use Rattle.tau_heard.proofs.hearing.Hearing.by_void.Goals as goal

pub returns : goal.returns
returns c = rw (c.of_actor.ensures, c.of-actor.ensures) (void_leads c.args.self.now c.args._trace.now.run c.args._step.now c.requires.next c.args.who (ap actor c.requires.kind) c.args.message c.requires.kind)
