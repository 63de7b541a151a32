use Rattle.tau_journal.proofs.Torn.{images_torn}
use Rattle.tau_journal.proofs.disk.laws.images_are_torn.Goals as goal

pub returns : goal.returns
returns c = images_torn
