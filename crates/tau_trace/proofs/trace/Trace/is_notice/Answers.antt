use Rattle.std.proofs.Common.{subst}
use Rattle.tau_trace.specs.Numbering.{IsEchoAt}
use Rattle.tau_trace.proofs.Once.{origin_once}
use Rattle.tau_trace.proofs.trace.Trace.is_notice.Goals as goal

pub returns-in-Some : goal.returns-in-Some
returns-in-Some c =
    let T = c.args.self.now.run in
    let from = c.in-Some.ensures in (
      λ t. record { place = c.in-Some.place; by = from.0; origin = from.1; echo = c.is_echo_at.ensures.0 t },
      λ n. c.is_echo_at.ensures.1 (subst (IsEchoAt T) (origin_once T n.place c.in-Some.place n.by from.0 c.args.message n.origin from.1) n.echo),
    )
