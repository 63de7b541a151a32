use Rattle.tau_heard.proofs.Leading.{repeat_leads}
use Rattle.tau_heard.proofs.hearing.Hearing.by_repeat.Goals as goal

pub returns : goal.returns
returns c = repeat_leads c.args.self.now c.args.trace.now.run c.args.step.now c.requires.next c.args.message c.repeated.result.now c.in_ok-copy.copy c.requires.kind c.repeated.ensures c.in_ok-copy.ensures.sender c.in_ok-copy.ensures.roots
