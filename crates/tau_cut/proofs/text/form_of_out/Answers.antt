use Rattle.std.proofs.Common.{List, ap}
use Rattle.tau_sexpr.specs.Tree.{Tree, list, inside}
use Rattle.tau_cut.proofs.LineLemmas.{front_printable, out_is, list_depth, list_words}
use Rattle.tau_cut.proofs.text.form_of_out.Goals as goal

pub add_points-requires-clause-depth : goal.add_points-requires-clause-depth
add_points-requires-clause-depth c = (front_printable c.args.place c.in_ok-items.items c.in_ok-items.ensures.forms c.in_ok-items.ensures.fits).depth

pub add_points-requires-clause-words : goal.add_points-requires-clause-words
add_points-requires-clause-words c = (front_printable c.args.place c.in_ok-items.items c.in_ok-items.ensures.forms c.in_ok-items.ensures.fits).words

pub returns-clause-form : goal.returns-clause-form
returns-clause-form c = ap (λ (ts : List Tree). list (inside ts)) (out_is c.args.opening.now c.args.place c.args.chain.now c.in_ok-items.items c.add_points.new.forms c.in_ok-items.ensures.forms c.in_ok-add_points.ensures.forms)

pub returns-clause-depth : goal.returns-clause-depth
returns-clause-depth c = list_depth c.add_points.new.forms c.in_ok-add_points.ensures.depth

pub returns-clause-words : goal.returns-clause-words
returns-clause-words c = list_words c.add_points.new.forms c.in_ok-add_points.ensures.words
