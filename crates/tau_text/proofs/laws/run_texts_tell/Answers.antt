use Rattle.tau_text.proofs.Telling.{texts_tell}
use Rattle.tau_text.proofs.laws.run_texts_tell.Goals as goal

pub returns : goal.returns
returns c = texts_tell
