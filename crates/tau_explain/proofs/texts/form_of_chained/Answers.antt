use Rattle.std.proofs.Common.{subst, sym, ◌≤◌}
use Rattle.tau_sexpr.specs.Tree.{Tree, depth_of, HasWords}
use Rattle.tau_explain.proofs.TextLemmas.{point_words, point_depth}
use Rattle.tau_explain.proofs.texts.form_of_chained.Goals as goal

pub returns-clause-depth : goal.returns-clause-depth
returns-clause-depth c = subst (λ (t : Tree). depth_of t ≤ 1) (sym c.in_ok-form.ensures.form) (point_depth c.args.opening.now c.args.chained)

pub returns-clause-words : goal.returns-clause-words
returns-clause-words c = subst HasWords (sym c.in_ok-form.ensures.form) (point_words c.args.opening.now c.args.chained c.requires c.in_ok-form.ensures.fits)
