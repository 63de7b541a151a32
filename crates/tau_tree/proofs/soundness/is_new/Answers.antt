use Rattle.tau_tree.proofs.DistinctLemmas.{new_is}
use Rattle.tau_tree.proofs.soundness.is_new.Goals as goal

pub returns-clause-value : goal.returns-clause-value
returns-clause-value c = new_is _ _ _ _ c.find.ensures c.is_none-new.ensures
