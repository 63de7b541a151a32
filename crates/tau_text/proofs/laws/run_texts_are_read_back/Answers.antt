use Rattle.tau_text.proofs.ReadBack.{run_texts_read_back}
use Rattle.tau_text.proofs.laws.run_texts_are_read_back.Goals as goal

pub returns : goal.returns
returns c = run_texts_read_back
