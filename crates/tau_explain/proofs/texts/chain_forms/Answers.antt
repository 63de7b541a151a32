use Rattle.std.proofs.Common.{None, arith}
use Rattle.tau_sexpr.specs.Form.{tree_of}
use Rattle.tau_explain.specs.declared.chains.chained.Chained.{Chained}
use Rattle.tau_explain.proofs.TextLemmas.{chain_more}
use Rattle.tau_explain.proofs.texts.chain_forms.Goals as goal

pub loop-chained-preserved : goal.loop-chained-preserved
loop-chained-preserved c =
    let d : Chained = record { point = record { who = 0; interval = 0; incarnation = 0 }; by = None } in
    chain_more c.args.opening.now c.items-chained-items.result.now c.loop-chained.chained-index d c.loop-chained.forms c.add.new.self (tree_of c.in_ok-form_of_point.field-0) (omega arith) c.requires c.in_ok-form_of_point.ensures.form c.in_ok-form_of_point.ensures.fits c.in_ok-add.ensures.ok c.loop-chained.invariant
