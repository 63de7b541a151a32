use Rattle.tau_views.proofs.Trimmed.{after_merge}
use Rattle.tau_views.proofs.after.after_merge.Goals as goal

pub returns : goal.returns
returns g c x y e f = after_merge g.V.View.drops_edge g.V.View.drops_root g.met.V.View.drops_for_good (g.V.View.held c.args.view.now) (g.V.View.held c.args.letter.now) (g.V.View.held c.in_ok-next.next) (g.V.View.held c.merge_facts.new.self) x y c.requires e f c.in_ok-next.ensures c.in_ok-merge_facts.ensures.ok
