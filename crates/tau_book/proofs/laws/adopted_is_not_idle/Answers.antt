use Rattle.tau_book.proofs.AdoptLemmas.{not_idle_then}
use Rattle.tau_book.proofs.laws.adopted_is_not_idle.Goals as goal

pub returns : goal.returns
returns c = not_idle_then
