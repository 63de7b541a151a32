use Rattle.tau_cut.proofs.KeptLemmas.{held_kept, not_held}
use Rattle.tau_cut.proofs.states.note.Goals as goal

pub returns-in_ok-keep_closed-clause-kept : goal.returns-in_ok-keep_closed-clause-kept
returns-in_ok-keep_closed-clause-kept c = held_kept c.args.held c.args.step.now c.note.new.self.records c.args.kept.now.items c.keep_closed.new.kept.items c.if-held.true c.in_ok-keep_closed.ensures

pub returns-else-held-clause-kept : goal.returns-else-held-clause-kept
returns-else-held-clause-kept c = not_held c.args.held c.args.step.now c.note.new.self.records c.args.kept.now.items c.if-held.false
