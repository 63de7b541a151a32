use Rattle.std.proofs.Common.{ap}
use Rattle.tau_trace.specs.Steps.{actor}
use Rattle.tau_heard.proofs.ByKind.{take_leads}
use Rattle.tau_heard.proofs.Leading.{letter_there}
use Rattle.tau_past.specs.Heard.{heard_by}
use Rattle.tau_heard.proofs.hearing.Hearing.by_take.Goals as goal

pub returns : goal.returns
returns c =
    let l = letter_there c.args.self.now c.args.trace.now.run c.args.step.now c.requires.next c.args.message (ap heard_by c.requires.kind) in
    rw (c.of_actor.ensures, c.of-actor.ensures) (take_leads c.args.self.now c.args.trace.now.run c.args.step.now c.requires.next c.args.who (ap actor c.requires.kind) c.args.message c.news-hears.result l.0 c.in_ok-roots.roots c.requires.kind l.1 (c.in_ok-roots.ensures l.0 l.1) c.news-hears.ensures.right c.news-hears.ensures.only)
