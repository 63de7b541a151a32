use Rattle.std.proofs.Common.{refl, arith}
use Rattle.tau_check.proofs.EndLemmas.{one_more_gone, some_in_flight, all_gone}
use Rattle.tau_check.proofs.ends.none_in_flight.Goals as goal

pub loop-message-preserved : goal.loop-message-preserved
loop-message-preserved c = one_more_gone c.args.trace.now.run c.loop-message.message c.ended_by.result c.is_none.result c.ended_by.ensures c.is_none.ensures c.if-is_none.false c.loop-message.invariant

pub returns-then-is_none : goal.returns-then-is_none
returns-then-is_none c = (
  λ h. absurd (cc),
  λ none. absurd (some_in_flight c.args.trace.now.run c.loop-message.message c.ended_by.result c.is_none.result (omega (arith, c.loop-message-test.true, c.sent-count.ensures)) c.ended_by.ensures c.is_none.ensures c.if-is_none.true none),
)

pub returns : goal.returns
returns c = (
  λ h. all_gone c.args.trace.now.run (λ m lt f. c.loop-message.invariant m (omega (arith, lt, c.sent-count.ensures, c.loop-message-test.false)) f),
  λ none. refl,
)
