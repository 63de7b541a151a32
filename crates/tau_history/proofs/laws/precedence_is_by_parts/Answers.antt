use Rattle.tau_history.proofs.Parts.{precedence_by_parts}
use Rattle.tau_history.proofs.laws.precedence_is_by_parts.Goals as goal

pub returns : goal.returns
returns c = precedence_by_parts
