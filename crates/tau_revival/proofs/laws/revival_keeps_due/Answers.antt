use Rattle.tau_trace.specs.Run.{len}
use Rattle.tau_revival.specs.Revival.{revived}
use Rattle.tau_revival.proofs.Revival.{keeps_due, goes_on_there}
use Rattle.tau_revival.proofs.laws.revival_keeps_due.Goals as goal

pub returns : goal.returns
returns c = λ S T nodes k some at. record {
  due = keeps_due S T nodes k some at (λ j. c.scripts_are_determined.ensures S T j) (λ j. c.scripts_are_determined.ensures (revived S nodes (len T) k.entry) T j);
  goes_on = goes_on_there S T nodes k some at;
}
