use Rattle.std.proofs.Common.{ap}
use Rattle.tau_trace.specs.Steps.{actor}
use Rattle.tau_heard.proofs.ByKind.{fall_leads}
use Rattle.tau_heard.proofs.Leading.{last_there}
use Rattle.tau_heard.proofs.hearing.Hearing.by_fall.Goals as goal

pub returns : goal.returns
returns c =
    let last = last_there c.args.self.now c.args.trace.now.run c.args.step.now c.requires.next c.args.who (ap actor c.requires.kind) in
    rw (c.of_actor.ensures, c.of.ensures) (fall_leads c.args.self.now c.args.trace.now.run c.args.step.now c.requires.next c.args.who (ap actor c.requires.kind) c.args.message last.0 c.fallen.result c.news-hears.result last.1 (c.fallen.ensures last.0 last.1) c.requires.kind c.news-hears.ensures.right c.news-hears.ensures.only)
