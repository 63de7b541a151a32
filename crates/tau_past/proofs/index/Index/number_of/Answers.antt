use Rattle.std.proofs.Common.{subst, sym, ap, ◌∙◌, ◌<◌, ◌≡◌, arith}
use Rattle.std.specs.Prelude.{slice_get}
use Rattle.tau_history.specs.Timeline.{numbers}
use Rattle.tau_trace.specs.Run.{len}
use Rattle.tau_trace.specs.Histories.{history}
use Rattle.tau_past.specs.Tables.{TellsHistory, all_born}
use Rattle.tau_past.proofs.NextTables.{lists_read}
use Rattle.tau_past.proofs.index.Index.number_of.Goals as goal

pub returns : goal.returns
returns c =
    let R = c.self.inside.trace.now.run in
    let t = c.args.who in
    let lt : t < all_born R = subst (λ r. t < all_born r) (sym c.self.view_is) c.requires in
    let at = lists_read (all_born R) (TellsHistory R (len R)) _ t _ lt c.index.ensures c.self.invariant.histories in
    subst (λ r. c.number_at.result ≡ slice_get (numbers (history r t (len r))) c.args.interval) c.self.view_is
    (c.number_at.ensures ∙ ap (λ h. slice_get (numbers h) c.args.interval) at)
