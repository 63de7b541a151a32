use Rattle.std.proofs.Common.{sym, ◌∙◌}
use Rattle.tau_heard.proofs.ByKind.{stable_failure_leads, failure_leads}
use Rattle.tau_heard.proofs.Leading.{mode_is}
use Rattle.tau_heard.proofs.hearing.Hearing.by_failure.Goals as goal

pub returns-then-last_version : goal.returns-then-last_version
returns-then-last_version c =
    rw c.of_turn.ensures (stable_failure_leads c.args.self.now c.args.trace.now.run c.args.step.now c.requires.next c.args.who c.requires.by c.requires.kind (sym (mode_is c.args.self.now c.args.trace.now.run c.args.step.now c.requires.next c.args.who c.last_version.result c.requires.by c.last_version.ensures) ∙ c.if-last_version.true))

pub returns : goal.returns
returns c =
    rw (c.of_actor.ensures, c.of.ensures)
    (failure_leads c.args.self.now c.args.trace.now.run c.args.step.now c.requires.next c.args.who c.requires.by c.last_version.result c.fallen.result c.last_version.ensures (c.fallen.ensures c.last_version.result c.last_version.ensures) c.requires.kind (sym (mode_is c.args.self.now c.args.trace.now.run c.args.step.now c.requires.next c.args.who c.last_version.result c.requires.by c.last_version.ensures) ∙ c.if-last_version.false))
