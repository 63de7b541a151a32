use Rattle.tau_output.proofs.LawLemmas.{writes_once, writes_without_fault, writes_where_asked, storms_alike, fails_once}
use Rattle.tau_output.proofs.laws.output_is_unique.Goals as goal

pub returns : goal.returns
returns c = record { once = writes_once c.args._bytes.now; without_fault = writes_without_fault c.args._bytes.now; asked = writes_where_asked c.args._bytes.now; alike = storms_alike c.args._bytes.now; one_fault = fails_once c.args._bytes.now }
