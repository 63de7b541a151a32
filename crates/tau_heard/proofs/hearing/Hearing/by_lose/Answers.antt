use Rattle.tau_heard.proofs.Leading.{lose_leads}
use Rattle.tau_heard.proofs.hearing.Hearing.by_lose.Goals as goal

pub returns : goal.returns
returns c = lose_leads c.args.self.now c.args._trace.now.run c.args._step.now c.requires.next c.args.message c.requires.kind
