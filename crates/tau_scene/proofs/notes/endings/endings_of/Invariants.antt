use Rattle.tau_layout.specs.Inner.Laying.{lanes_of}
use Rattle.tau_scene.specs.Notes.Inner.Keeping.{AreEndingsOf}
use Rattle.tau_scene.proofs.notes.endings.endings_of.Given as goal

abbrev pub invariant-loop-rank : goal.invariant-loop-rank
invariant-loop-rank l = AreEndingsOf l.names l.starts (lanes_of l.columns) l.kept l.rank l.endings.items
