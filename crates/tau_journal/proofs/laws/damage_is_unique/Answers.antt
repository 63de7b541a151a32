use Rattle.tau_journal.proofs.Unique.{one_damage}
use Rattle.tau_journal.proofs.laws.damage_is_unique.Goals as goal

pub returns : goal.returns
returns c = record { law = λ at by file one two. one_damage file at by one two }
