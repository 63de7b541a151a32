use Rattle.std.proofs.Common.{subst, sym, ◌<◌}
use Rattle.tau_trace.specs.Run.{len}
use Rattle.tau_past.specs.Tables.{TellsEarlier}
use Rattle.tau_past.proofs.NextTables.{lists_read}
use Rattle.tau_past.proofs.index.Index.earlier_at.Goals as goal

pub returns : goal.returns
returns c =
    let R = c.self.inside.trace.now.run in
    let lt : c.args.place < len R = subst (λ r. c.args.place < len r) (sym c.self.view_is) c.requires in
    subst (λ r. TellsEarlier r c.args.place c.index.result.now) c.self.view_is (lists_read (len R) (TellsEarlier R) _ c.args.place _ lt c.index.ensures c.self.invariant.earlier)
