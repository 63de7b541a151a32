use Rattle.tau_revival.proofs.Legality.{legal_there, legal_back}
use Rattle.tau_revival.proofs.laws.revival_keeps_steps.Goals as goal

pub returns : goal.returns
returns c = λ P Q T U k s sound is agree lt. (
  legal_there c.revival_keeps_due.ensures c.scripts_are_local.ensures P Q T U sound is agree k s lt,
  legal_back c.revival_keeps_due.ensures c.scripts_are_local.ensures P Q T U sound is agree k s lt,
)
