use Rattle.tau_legal.proofs.ChoiceLemmas as lemmas
use Rattle.tau_legal.proofs.choices.choice_of_rollback.Goals as goal

pub returns-then-is_stable : goal.returns-then-is_stable
returns-then-is_stable c = lemmas.stay_fits c.args.states.now.records c.args.who c.is_stable.result c.requires c.is_stable.ensures.stable c.if-is_stable.true

pub returns : goal.returns
returns c = lemmas.rollback_fits c.args.states.now.records c.args.who c.is_stable.result c.requires c.is_stable.ensures.stable c.if-is_stable.false
