use Rattle.tau_views.specs.Kept.{letters_of}
use Rattle.tau_views.specs.Inner.Opened.{ArePosts}
use Rattle.tau_views.proofs.opening.post_views.Given as goal

abbrev pub invariant-loop-post : goal.invariant-loop-post
invariant-loop-post g l = ArePosts g.V.View.drops_edge g.V.View.drops_root (letters_of g.V.View.held l.views.items) l._post
