use Rattle.std.proofs.Common.{sym, ◌∙◌}
use Rattle.tau_heard.proofs.Decisions.{log_kept, last_point}
use Rattle.tau_heard.proofs.hearing.Hearing.point_of.Goals as goal

pub unreachable-requires : goal.unreachable-requires
unreachable-requires c = let both = c.in-None.ensures ∙ (log_kept c.args._trace.now.run c.args.self.now c.requires.knows c.args.who c.requires.exists).1 in cc

pub returns : goal.returns
returns c = last_point c.args._trace.now.run c.args.self.now c.requires.knows c.args.who c.requires.exists c.in-Some.log.now c.point_by.result (sym c.in-Some.ensures) c.point_by.ensures
