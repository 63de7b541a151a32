use Rattle.std.proofs.Common.{Bool, not, ◌∙◌, ap, rules}
use Rattle.std.proofs.lemmas.Fn.{always_returns_same}
use Rattle.tau_points.specs.declared.point.Point.{Point}
use Rattle.tau_view.specs.Dropping.{edges_by}
use Rattle.tau_view.specs.Stored.{history_in, pair_in}
use Rattle.tau_view.proofs.Keeping.{pair_in-filter}
use Rattle.tau_view.proofs.dropping.drop_edges.Goals as goal

pub returns : goal.returns
returns g c =
    let drop : Point → Point → Bool = edges_by g.D.Dropping.edge (history_in c.args.histories.now) in
    ap pair_in (c.retain.ensures.kept (λ e. not (drop e.0 e.1)) (always_returns_same _ _ _ (λ a r f h. search rules)))
    ∙ (λ i p q. pair_in-filter drop c.args.edges.now p q i)
