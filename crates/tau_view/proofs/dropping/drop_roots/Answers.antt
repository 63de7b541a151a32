use Rattle.std.proofs.Common.{Bool, not, ◌∙◌, ap, rules}
use Rattle.std.proofs.lemmas.Fn.{always_returns_same}
use Rattle.tau_points.specs.declared.point.Point.{Point}
use Rattle.tau_view.specs.Dropping.{roots_by}
use Rattle.tau_view.specs.Stored.{history_in, point_in}
use Rattle.tau_view.proofs.Keeping.{point_in-filter}
use Rattle.tau_view.proofs.dropping.drop_roots.Goals as goal

pub returns : goal.returns
returns g c =
    let drop : Point → Bool = roots_by g.D.Dropping.root (history_in c.args.histories.now) in
    ap point_in (c.retain.ensures.kept (λ q. not (drop q)) (always_returns_same _ _ _ (λ a r f h. search rules)))
    ∙ (λ i q. point_in-filter drop c.args.roots.now q i)
