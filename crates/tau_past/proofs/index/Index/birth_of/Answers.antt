use Rattle.std.proofs.Common.{subst, sym, ◌<◌, arith}
use Rattle.tau_trace.specs.Run.{len}
use Rattle.tau_past.specs.Tables.{IsBirth, all_born}
use Rattle.tau_past.proofs.NextTables.{lists_read}
use Rattle.tau_past.proofs.index.Index.birth_of.Goals as goal

pub returns : goal.returns
returns c =
    let R = c.self.inside.trace.now.run in
    let lt : c.args.who < all_born R = subst (λ r. c.args.who < all_born r) (sym c.self.view_is) c.requires in
    subst (λ r. IsBirth r c.args.who c.index.result.now) c.self.view_is (lists_read (all_born R) (IsBirth R) _ c.args.who _ lt c.index.ensures c.self.invariant.births)
