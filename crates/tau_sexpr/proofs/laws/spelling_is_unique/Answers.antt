use Rattle.tau_sexpr.proofs.LawLemmas.{once, without_fault}
use Rattle.tau_sexpr.proofs.laws.spelling_is_unique.Goals as goal

pub returns : goal.returns
returns c = record { once = once c.args._bytes.now; without_fault = without_fault c.args._bytes.now }
