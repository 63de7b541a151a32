use Rattle.tau_heard.proofs.ByKind.{touch_leads}
use Rattle.tau_heard.proofs.hearing.Hearing.by_touch.Goals as goal

pub returns : goal.returns
returns c = rw c.of_turn.ensures (touch_leads c.args.self.now c.args._trace.now.run c.args._step.now c.requires.next c.args.who c.requires.by c.requires.kind)
