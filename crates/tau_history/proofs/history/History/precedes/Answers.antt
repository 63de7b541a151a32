use Rattle.std.proofs.Common.{sym, ap}
use Rattle.tau_history.proofs.Gets.{front_along}
use Rattle.tau_history.proofs.Chain.{interval_grows, closed_front}
use Rattle.tau_history.proofs.history.History.precedes.Goals as goal

pub returns : goal.returns
returns c =
    let own = ap (λ v. v.history.closed) c.self.view_is in
    let laters = ap (λ v. v.history.closed) c.later.view_is in (
      λ t. c.may_precede.ensures.suffices c.if-not-may_precede.false (front_along own laters (c.continues_in.ensures.0 t)),
      λ p. c.continues_in.ensures.1 (front_along (sym own) (sym laters) (record { is = closed_front p; shorter = interval_grows p })),
    )
