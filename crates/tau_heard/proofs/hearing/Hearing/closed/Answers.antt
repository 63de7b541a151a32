use Rattle.std.proofs.Common.{inl, refl, arith}
use Rattle.tau_history.specs.Timeline.{close}
use Rattle.tau_heard.proofs.Leading.{few_intervals, left_moved}
use Rattle.tau_heard.proofs.hearing.Hearing.closed.Goals as goal

pub closed-requires : goal.closed-requires
closed-requires c = omega (arith, few_intervals c.args.self.now c.args.trace.now.run c.args.step.now c.requires.next c.args.who c.last_version.result c.requires.by c.last_version.ensures, c.requires.next.follows.few_steps)

pub returns : goal.returns
returns c = λ v last.
    left_moved c.args.self.now c.args.trace.now.run c.args.step.now c.requires.next c.args.who c.len.result c.last_version.result c.closed.result close c.requires.by c.last_version.ensures c.len.ensures.len c.closed.ensures.from c.closed.ensures.tells c.closed.ensures.takes (inl refl) v last
