use Rattle.std.proofs.Common.{◌≡◌, inl, ap, arith}
use Rattle.tau_history.specs.Timeline.{stabilize, close, fall}
use Rattle.tau_trace.specs.Run.{len}
use Rattle.tau_trace.specs.Steps.{actor}
use Rattle.tau_heard.specs.Next.{IsMoved}
use Rattle.tau_heard.proofs.ByKind.{stabilize_leads}
use Rattle.tau_heard.proofs.hearing.Hearing.by_stabilize.Goals as goal

pub returns : goal.returns
returns c =
    let is : IsMoved (len c.args.trace.now.run) c.last_version-version.result c.stabilized.result stabilize = record {
      from = omega (arith, c.stabilized.ensures.from, c.len.ensures.len);
      tells = c.stabilized.ensures.tells;
      takes = inl (c.stabilized.ensures.takes.0, c.stabilized.ensures.takes.1, λ (e : stabilize ≡ close). cc, λ (e : stabilize ≡ fall). cc);
    } in
    rw (c.of_actor.ensures, c.of.ensures) (stabilize_leads c.args.self.now c.args.trace.now.run c.args.step.now c.requires.next c.args.who (ap actor c.requires.kind) c.last_version-version.result c.stabilized.result c.last_version-version.ensures is c.requires.kind)
