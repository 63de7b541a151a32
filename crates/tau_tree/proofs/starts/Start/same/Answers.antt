use Rattle.tau_tree.proofs.FieldLemmas.{same_starts}
use Rattle.tau_tree.proofs.starts.Start.same.Goals as goal

pub returns-then-same : goal.returns-then-same
returns-then-same c = same_starts _ _ _ (c.same.ensures.0 c.if-same.true) c.if-self-other.false c.if-self-other-2.false c.same-then-same.ensures
