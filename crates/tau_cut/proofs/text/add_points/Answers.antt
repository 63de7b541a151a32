use Rattle.std.proofs.Common.{◌∙◌, ◌++◌, List, None, ap, arith}
use Rattle.std.proofs.lemmas.List.{take_all}
use Rattle.tau_sexpr.specs.Form.{tree_of}
use Rattle.tau_explain.specs.declared.chains.chained.Chained.{Chained}
use Rattle.tau_explain.specs.Texts.{chain_forms}
use Rattle.tau_cut.proofs.LineLemmas.{chain_start, chain_more}
use Rattle.tau_cut.proofs.text.add_points.Goals as goal

pub loop-chained-init : goal.loop-chained-init
loop-chained-init c = chain_start c.args.opening.now c.items-chained-items.result.now c.args.forms.now (record { depth = c.requires.depth; words = c.requires.words })

pub loop-chained-preserved : goal.loop-chained-preserved
loop-chained-preserved c =
    let d : Chained = record { point = record { who = 0; interval = 0; incarnation = 0 }; by = None } in
    chain_more c.args.opening.now c.items-chained-items.result.now c.loop-chained.chained-index d c.args.forms.now c.loop-chained.forms c.add.new.self (tree_of c.in_ok-form_of_chained.field-0) (omega arith) c.in_ok-form_of_chained.ensures.form c.in_ok-form_of_chained.ensures.depth c.in_ok-form_of_chained.ensures.words c.in_ok-add.ensures.ok c.loop-chained.invariant

pub returns-clause-forms : goal.returns-clause-forms
returns-clause-forms c = c.loop-chained.invariant.0 ∙ ap (λ (cs : List Chained). c.args.forms.now ++ chain_forms c.args.opening.now cs) (take_all c.loop-chained.chained-index c.items-chained-items.result.now c.loop-chained-test.false ∙ c.items-chained-items.ensures)

pub returns-clause-depth : goal.returns-clause-depth
returns-clause-depth c = c.loop-chained.invariant.1.depth

pub returns-clause-words : goal.returns-clause-words
returns-clause-words c = c.loop-chained.invariant.1.words
