use Rattle.std.proofs.Common.{◌∙◌, ap, get_or, arith}
use Rattle.tau_points.specs.declared.point.Point.{Point}
use Rattle.tau_view.specs.Edges.{edges_to, both_edges}
use Rattle.tau_view.specs.Held.{only}
use Rattle.tau_view.proofs.Operations.{edges_to-more}
use Rattle.tau_view.proofs.facts.edges_from.Goals as goal

pub loop-root-preserved : goal.loop-root-preserved
loop-root-preserved c =
    let d : Point = record { who = 0; interval = 0; incarnation = 0 } in
    c.in_ok-add_edge.ensures
    ∙ ap (λ e. both_edges e (edges_to c.args.from (only (get_or c.points-root-items.result.now c.loop-root.root-index d)))) c.loop-root.invariant
    ∙ edges_to-more c.args.from c.points-root-items.result.now c.loop-root.root-index d (omega arith)
