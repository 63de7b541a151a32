use Rattle.tau_explain.proofs.Noting.{notes_on}
use Rattle.tau_explain.proofs.chains.distance.note_all.Goals as goal

pub loop-point-preserved : goal.loop-point-preserved
loop-point-preserved c = notes_on _ _ _ _ _ _ _ _ _ _ _ c.in-Some.ensures.items c.loop-point.invariant c.in_ok-note.ensures
