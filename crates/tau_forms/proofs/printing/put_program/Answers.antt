use Rattle.tau_forms.proofs.ReadBackLemmas.{means_from, spells_from}
use Rattle.tau_forms.proofs.printing.put_program.Goals as goal

pub returns-clause-spells : goal.returns-clause-spells
returns-clause-spells c = spells_from c.args.program.now c.put_lines.result c.requires c.put_lines.ensures.bytes c.put_lines.ensures.fitting

pub returns-clause-read_back : goal.returns-clause-read_back
returns-clause-read_back c = means_from c.args.program.now c.put_lines.result c.requires c.put_lines.ensures.fitting
