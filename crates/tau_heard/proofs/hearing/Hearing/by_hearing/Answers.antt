use Rattle.tau_heard.proofs.ByKind.{hearing_leads}
use Rattle.tau_heard.proofs.hearing.Hearing.by_hearing.Goals as goal

pub returns : goal.returns
returns c = rw (c.of_actor.ensures, c.of-actor.ensures) (hearing_leads c.args.self.now c.args.trace.now.run c.args.step.now c.requires.next c.args.who c.requires.by c.args.message c.news-hears.result c.requires.kind c.requires.hears c.news-hears.ensures.right c.news-hears.ensures.only)
