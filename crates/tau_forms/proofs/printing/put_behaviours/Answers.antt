use Rattle.std.proofs.Common.{◌<◌, length, subst, arith}
use Rattle.std.proofs.lemmas.List.Elements.{All-more}
use Rattle.tau_sexpr.specs.Printing.{HasBytes}
use Rattle.tau_tree.specs.Parts.{Throughout}
use Rattle.tau_forms.specs.Inner.Fitting.{HasFittingInteger}
use Rattle.tau_forms.specs.Printed.{behaviour_form}
use Rattle.tau_forms.proofs.LineTexts.{lines_more}
use Rattle.tau_forms.proofs.printing.put_behaviours.Goals as goal

pub loop-behaviour-preserved : goal.loop-behaviour-preserved
loop-behaviour-preserved c =
    let xs = c.args.behaviours.now in
    let k = c.loop-behaviour.behaviour-index in
    let lt : k < length xs = omega arith in
    let item = c.behaviour-item.result in
    let form = behaviour_form c.args.tables.now.behaviours c.args.tables.now.starts in
    record {
      text = lines_more form xs k item c.args.out.now.items c.loop-behaviour.out.items c.put_behaviour.new.out.items lt c.behaviour-item.is c.loop-behaviour.invariant.text c.in_ok-put_behaviour.ensures.text;
      bytes = All-more (λ b. HasBytes (form b)) xs k item lt c.loop-behaviour.invariant.bytes (subst (λ b. HasBytes (form b)) c.behaviour-item.is c.in_ok-put_behaviour.ensures.bytes);
      integers = All-more (λ b. Throughout HasFittingInteger b.body) xs k item lt c.loop-behaviour.invariant.integers (subst (λ b. Throughout HasFittingInteger b.body) c.behaviour-item.is c.in_ok-put_behaviour.ensures.integers);
    }
