use Rattle.tau_heard.proofs.Bounds.{letters_stay}
use Rattle.tau_heard.proofs.laws.letters_stay.Goals as goal

pub returns : goal.returns
returns c = letters_stay
