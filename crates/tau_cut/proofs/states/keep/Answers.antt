use Rattle.tau_cut.proofs.KeptLemmas.{keeps_of, keeps_nothing}
use Rattle.tau_cut.proofs.states.keep.Goals as goal

pub returns-in-Some : goal.returns-in-Some
returns-in-Some c = keeps_of c.args.states.now.records c.args.who c.in-Some.record.now c.args.kept.now.items c.put.new.kept.items c.put.result c.in-Some.ensures c.put.ensures

pub returns-in-None : goal.returns-in-None
returns-in-None c = keeps_nothing c.args.states.now.records c.args.who c.args.kept.now.items c.in-None.ensures
