use Rattle.std.proofs.Common.{List, ap}
use Rattle.tau_sexpr.specs.Tree.{Tree, list, inside}
use Rattle.tau_cut.proofs.LineLemmas.{in_printable, list_depth, list_words}
use Rattle.tau_cut.proofs.text.form_of_in.Goals as goal

pub returns-clause-form : goal.returns-clause-form
returns-clause-form c = ap (λ (ts : List Tree). list (inside ts)) c.in_ok-items.ensures.forms

pub returns-clause-depth : goal.returns-clause-depth
returns-clause-depth c = list_depth c.in_ok-items.items (in_printable c.args.place c.in_ok-items.items c.in_ok-items.ensures.forms c.in_ok-items.ensures.fits).depth

pub returns-clause-words : goal.returns-clause-words
returns-clause-words c = list_words c.in_ok-items.items (in_printable c.args.place c.in_ok-items.items c.in_ok-items.ensures.forms c.in_ok-items.ensures.fits).words
