use Rattle.std.proofs.Common.{ℕ, inr, subst}
use Rattle.tau_trace.specs.Run.{appended}
use Rattle.tau_trace.specs.Numbering.{HasSender}
use Rattle.tau_heard.proofs.Leading.{sender_is, hears_of}
use Rattle.tau_heard.proofs.hearing.Hearing.news.Goals as goal

pub returns-in-Some-clause-right : goal.returns-in-Some-clause-right
returns-in-Some-clause-right c =
    let from = sender_is c.args.self.now c.args.trace.now.run c.args.step.now c.requires.next c.args.message c.letter.result.now c.in-Some.sender c.letter.ensures c.in-Some.is in
    let F : ℕ → Type 0 = HasSender (appended c.args.trace.now.run c.args.step.now) c.args.message in
    inr (c.args.message, hears_of c.args.self.now c.args.trace.now.run c.args.step.now c.requires.next c.args.message c.requires.hears, subst F c.if-sender-who.true from)

pub returns-in_default-clause-right : goal.returns-in_default-clause-right
returns-in_default-clause-right c = (hears_of c.args.self.now c.args.trace.now.run c.args.step.now c.requires.next c.args.message c.requires.hears, (c.letter.result.now, c.letter.ensures))

pub returns-in_default-2-clause-right : goal.returns-in_default-2-clause-right
returns-in_default-2-clause-right c = (hears_of c.args.self.now c.args.trace.now.run c.args.step.now c.requires.next c.args.message c.requires.hears, (c.letter.result.now, c.letter.ensures))
