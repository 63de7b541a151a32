use Rattle.tau_forms.proofs.RowLemmas.{none_third}
use Rattle.tau_forms.proofs.checking.items_of_third.Goals as goal

pub returns-in-None : goal.returns-in-None
returns-in-None c = none_third c.args.items.now c.in-None.ensures.lookup.3
