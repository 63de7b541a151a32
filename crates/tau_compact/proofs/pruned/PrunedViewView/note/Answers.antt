use Rattle.tau_compact.proofs.Calls.{is_pruned}
use Rattle.tau_compact.proofs.pruned.PrunedViewView.note.Goals as goal

pub invariant_of-self-2 : goal.invariant_of-self-2
invariant_of-self-2 c = is_pruned c.drop_by.new.self _ c.drop_by.ensures
