use Rattle.tau_eval.proofs.FrameLemmas.{followed}
use Rattle.tau_eval.proofs.machine.Machine.follow.Goals as goal

pub returns-in-Part-clause-goes : goal.returns-in-Part-clause-goes
returns-in-Part-clause-goes c = λ s rs. followed c.args.self.now.frames.items c.push_reserved.new.self.items c.args.progress c.in-Part.frame c.in-Part.part s c.args.self.now.scope c.args.self.now.count rs c.in-Part.is c.requires.stays c.push_reserved.ensures.items
