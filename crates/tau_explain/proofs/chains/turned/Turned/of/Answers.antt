use Rattle.std.proofs.Common.{◌∙◌}
use Rattle.tau_explain.proofs.Turning.{turned_of}
use Rattle.tau_explain.proofs.chains.turned.Turned.of.Goals as goal

pub returns : goal.returns
returns c = turned_of _ _ _ _ _ c.pairs-pair-items.ensures.pairs c.loop-pair-test.false (c.deref.ensures.value ∙ c.loop-pair.invariant) c.in_ok-from_slice.ensures.members
