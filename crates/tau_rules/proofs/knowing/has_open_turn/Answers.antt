use Rattle.std.proofs.Common.{Some, eq-eqb, eqb-true, subst}
use Rattle.tau_trace.specs.Run.{len}
use Rattle.tau_trace.specs.Turns.{IsOpenTurn}
use Rattle.tau_rules.proofs.ActLemmas.{open_is}
use Rattle.tau_rules.proofs.knowing.has_open_turn.Goals as goal

pub returns-in-Some : goal.returns-in-Some
returns-in-Some c = (
  λ e. subst (λ p. IsOpenTurn c.args.trace.now.run c.args.who (len c.args.trace.now.run) (Some p)) (eqb-true c.in-Some.turn c.args.place e) c.in-Some.ensures,
  λ u. eq-eqb c.in-Some.turn c.args.place (open_is c.args.trace.now.run c.args.who (len c.args.trace.now.run) c.in-Some.turn c.args.place c.in-Some.ensures u),
)
