use Rattle.tau_sexpr.proofs.LawLemmas.{forms_or_fault, fails_once}
use Rattle.tau_sexpr.proofs.laws.forms_or_first_fault.Goals as goal

pub returns : goal.returns
returns c = record { either = forms_or_fault c.args._bytes.now; one_fault = fails_once c.args._bytes.now }
