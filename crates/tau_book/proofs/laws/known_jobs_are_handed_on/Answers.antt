use Rattle.tau_book.proofs.Knowing.{next_hands_on, act_hands_on}
use Rattle.tau_book.proofs.laws.known_jobs_are_handed_on.Goals as goal

pub returns-clause-next : goal.returns-clause-next
returns-clause-next c = next_hands_on

pub returns-clause-act : goal.returns-clause-act
returns-clause-act c = act_hands_on
