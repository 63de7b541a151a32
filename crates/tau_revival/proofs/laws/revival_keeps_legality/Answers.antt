use Rattle.tau_revival.proofs.Legality.{legal_in, legal_out}
use Rattle.tau_revival.proofs.laws.revival_keeps_legality.Goals as goal

pub returns : goal.returns
returns c = λ P Q T sound is. (
  legal_in c.revival_keeps_due.ensures c.scripts_are_local.ensures P Q T sound is,
  legal_out c.revival_keeps_due.ensures c.scripts_are_local.ensures P Q T sound is,
)
