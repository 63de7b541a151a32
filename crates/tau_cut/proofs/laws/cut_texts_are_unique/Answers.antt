use Rattle.tau_cut.proofs.OneCut.{cut_text_once as the_law}
use Rattle.tau_cut.proofs.laws.cut_texts_are_unique.Goals as goal

pub returns : goal.returns
returns c = the_law
