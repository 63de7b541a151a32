use Rattle.std.proofs.Common.{subst, sym, ◌<◌, ◌≡◌, Some, ◌↔◌}
use Rattle.tau_points.specs.declared.point.Point.{Point}
use Rattle.tau_trace.specs.Run.{len}
use Rattle.tau_past.specs.Tables.{TellsTaker}
use Rattle.tau_past.proofs.NextTables.{lists_read}
use Rattle.tau_past.proofs.index.Index.taker_at.Goals as goal

pub returns : goal.returns
returns c =
    let R = c.self.inside.trace.now.run in
    let lt : c.args.place < len R = subst (λ r. c.args.place < len r) (sym c.self.view_is) c.requires in
    subst (λ r. TellsTaker r c.args.place c.index.result.now) c.self.view_is (lists_read (len R) (TellsTaker R) _ c.args.place _ lt c.index.ensures c.self.invariant.takers)
