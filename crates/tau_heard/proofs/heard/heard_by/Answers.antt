use Rattle.std.proofs.Common.{Option, subst}
use Rattle.tau_heard.specs.declared.letter.Sender.{Sender}
use Rattle.tau_heard.specs.Bounds.{TellsHeardBy}
use Rattle.tau_heard.proofs.Decisions.{post_bounds, sender_bounds}
use Rattle.tau_heard.proofs.heard.heard_by.Goals as goal

pub returns-in-Some : goal.returns-in-Some
returns-in-Some c = λ T m n logs x.
    let F : Option Sender → Type 0 = TellsHeardBy T m n logs in
    sender_bounds T m n logs c.in-Some.sender c.sent_with.result.who c.sent_with.result.version c.sent_with.result.numbers.now c.sent_with.ensures.who c.sent_with.ensures.version c.sent_with.ensures.numbers (subst F c.in-Some.is x)

pub returns-in-None : goal.returns-in-None
returns-in-None c = λ T m n logs x. let F : Option Sender → Type 0 = TellsHeardBy T m n logs in post_bounds T m n logs (subst F c.in-None.is x)
