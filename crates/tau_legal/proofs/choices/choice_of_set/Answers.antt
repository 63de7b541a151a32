use Rattle.tau_value.specs.Value.{val_of}
use Rattle.tau_legal.proofs.ChoiceLemmas as lemmas
use Rattle.tau_legal.proofs.choices.choice_of_set.Goals as goal

pub returns-then-is_stable : goal.returns-then-is_stable
returns-then-is_stable c = lemmas.skip_fits c.args.states.now.records c.args.who c.is_stable.result c.requires c.is_stable.ensures.stable (val_of c.args.value.now) c.if-is_stable.true

pub returns : goal.returns
returns c = lemmas.set_fits c.args.states.now.records c.args.who c.is_stable.result c.requires c.is_stable.ensures.stable c.in_ok-value.value c.args.value.now c.if-is_stable.false c.in_ok-value.ensures
