use Rattle.std.proofs.Common.{◌≡◌}
use Rattle.tau_trace.proofs.Prefix.{prefix}
use Rattle.tau_views.specs.Kept.{AreViews, held_of, letters_of}
use Rattle.tau_views.proofs.anew.views_of.Given as goal

abbrev pub invariant-loop-place : goal.invariant-loop-place
invariant-loop-place g l =
    (l.front.trace.run ≡ prefix l.trace.run l.place)
    × AreViews g.V.View.drops_edge g.V.View.drops_root l.front.trace.run (held_of g.V.View.held l.front.views.own.items) (letters_of g.V.View.held l.front.views.letters.items)
