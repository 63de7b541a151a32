use Rattle.tau_views.specs.Kept.{held_of}
use Rattle.tau_views.specs.Inner.Opened.{AreStarts}
use Rattle.tau_views.proofs.opening.start_views.Given as goal

abbrev pub invariant-loop-who : goal.invariant-loop-who
invariant-loop-who g l = AreStarts g.V.View.drops_edge g.V.View.drops_root (held_of g.V.View.held l.views.items) l.who
