use Rattle.std.proofs.Common.{◌∙◌}
use Rattle.tau_heard.proofs.Leading.{log_there}
use Rattle.tau_heard.proofs.hearing.Hearing.log_of.Goals as goal

pub unreachable-requires : goal.unreachable-requires
unreachable-requires c = let both = c.in-None.ensures ∙ (log_there c.args.self.now c.args._trace.now.run c.args._step.now c.requires.next c.args.who c.requires.by).1 in cc
