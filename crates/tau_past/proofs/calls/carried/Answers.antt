use Rattle.std.proofs.Common.{subst, ◌↔◌}
use Rattle.std.specs.Prelude.{Contains}
use Rattle.tau_points.specs.declared.point.Point.{Point}
use Rattle.tau_trace.specs.Run.{Run}
use Rattle.tau_past.specs.Carried.{Carried}
use Rattle.tau_past.proofs.PastSearch.{set_of}
use Rattle.tau_past.proofs.calls.carried.Goals as goal

pub returns-clause-members : goal.returns-clause-members
returns-clause-members c =
    set_of c.from_slice.result _ c.in_ok-points.points.items (Carried c.args.trace.now.run c.args.place) c.from_slice.ensures.members c.deref.ensures.value
    (subst (λ (R : Run). (q : Point) → Contains c.in_ok-points.points.items q ↔ Carried R c.args.place q) c.in_ok-index.ensures c.in_ok-points.ensures)
