use Rattle.std.proofs.Common.{inr, refl, arith}
use Rattle.tau_history.specs.Timeline.{fall}
use Rattle.tau_heard.proofs.Leading.{few_incarnations, left_moved}
use Rattle.tau_heard.proofs.hearing.Hearing.fallen.Goals as goal

pub fallen-requires : goal.fallen-requires
fallen-requires c = omega (arith, few_incarnations c.args.self.now c.args.trace.now.run c.args.step.now c.requires.next c.args.who c.last_version.result c.requires.by c.last_version.ensures, c.requires.next.follows.few_steps)

pub returns : goal.returns
returns c = λ v last.
    left_moved c.args.self.now c.args.trace.now.run c.args.step.now c.requires.next c.args.who c.len.result c.last_version.result c.fallen.result fall c.requires.by c.last_version.ensures c.len.ensures.len c.fallen.ensures.from c.fallen.ensures.tells c.fallen.ensures.takes (inr refl) v last
