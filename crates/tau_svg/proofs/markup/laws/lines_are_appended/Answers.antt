use Rattle.tau_svg.proofs.LineLemmas.{lines_appended as the_law}
use Rattle.tau_svg.proofs.markup.laws.lines_are_appended.Goals as goal

pub returns : goal.returns
returns c = the_law
