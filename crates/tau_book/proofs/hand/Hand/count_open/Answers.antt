use Rattle.std.proofs.Common.{◌≤◌, arith, eqb, subst}
use Rattle.std.specs.List.{list_any}
use Rattle.tau_mailbox.proofs.Lists.{length-filter-le}
use Rattle.tau_eval.specs.Turn.{TurnSoFar}
use Rattle.tau_book.specs.Hands.{Held}
use Rattle.tau_book.proofs.hand.Hand.count_open.Goals as goal

pub returns-clause-within : goal.returns-clause-within
returns-clause-within c =
    let s = c.self.inside in
    let fewer = length-filter-le (λ (j : TurnSoFar). list_any (λ p. eqb p j.place) c.args.turns.now) c.deref.result.now in
    let here : c.count_open.result ≤ s.size = omega (arith, c.count_open.ensures, fewer, c.deref.ensures.len, c.self.invariant.0) in
    subst (λ (h : Held). c.count_open.result ≤ h.size) c.self.view_is here
