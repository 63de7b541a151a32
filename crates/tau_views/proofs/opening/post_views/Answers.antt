use Rattle.std.proofs.Common.{◌∙◌, ◌+◌, sym, ap, subst, map, Some}
use Rattle.std.specs.Option.{option_map}
use Rattle.tau_views.specs.Kept.{letters_of}
use Rattle.tau_views.specs.Inner.Opened.{ArePosts}
use Rattle.tau_views.proofs.Lists.{map-push}
use Rattle.tau_views.proofs.Opens.{posts_more}
use Rattle.tau_views.proofs.opening.post_views.Goals as goal

pub loop-post-preserved : goal.loop-post-preserved
loop-post-preserved g c =
    let items = ap (map (option_map g.V.View.held)) c.in_ok-push.ensures.items ∙ map-push (option_map g.V.View.held) c.loop-post.views.items (Some c.empty.result) in
    subst (λ xs. ArePosts g.V.View.drops_edge g.V.View.drops_root xs (c.loop-post._post + 1)) (sym items)
    (posts_more g.V.View.drops_edge g.V.View.drops_root (letters_of g.V.View.held c.loop-post.views.items) c.loop-post._post (g.V.View.held c.empty.result) c.empty.ensures c.loop-post.invariant)
