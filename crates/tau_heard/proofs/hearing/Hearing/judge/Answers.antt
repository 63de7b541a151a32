use Rattle.std.proofs.Common.{arith}
use Rattle.tau_heard.proofs.Decisions.{none_counted_all_is_taken}
use Rattle.tau_heard.proofs.hearing.Hearing.judge.Goals as goal

pub returns-then-self-eq0 : goal.returns-then-self-eq0
returns-then-self-eq0 c = none_counted_all_is_taken c.args.trace.now.run c.args.who c.args.message (omega (arith, c.if-self-eq0.true, c.requires.knows.falls_is))
