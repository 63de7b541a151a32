use Rattle.std.proofs.Common.{ap}
use Rattle.tau_trace.specs.Steps.{actor}
use Rattle.tau_heard.proofs.ByKind.{close_leads}
use Rattle.tau_heard.proofs.hearing.Hearing.by_close.Goals as goal

pub returns : goal.returns
returns c =
    rw (c.of_actor.ensures, c.of.ensures) (close_leads c.args.self.now c.args.trace.now.run c.args.step.now c.requires.next c.args.who (ap actor c.requires.kind) c.last_version-version.result c.closed.result c.last_version-version.ensures (c.closed.ensures c.last_version-version.result c.last_version-version.ensures) c.requires.kind)
