use Rattle.std.proofs.Common.{◌<◌, length, subst, arith}
use Rattle.std.proofs.lemmas.List.Elements.{All-more}
use Rattle.tau_sexpr.specs.Printing.{HasBytes}
use Rattle.tau_value.specs.Value.{val_of}
use Rattle.tau_value.specs.Written.{NumbersFit}
use Rattle.tau_forms.specs.Printed.{start_form}
use Rattle.tau_forms.proofs.LineTexts.{lines_more}
use Rattle.tau_forms.proofs.printing.put_starts.Goals as goal

pub loop-start-preserved : goal.loop-start-preserved
loop-start-preserved c =
    let xs = c.args.starts.now in
    let k = c.loop-start.start-index in
    let lt : k < length xs = omega arith in
    let item = c.start-item.result in
    let form = start_form c.args.tables.now.behaviours c.args.tables.now.starts in
    record {
      text = lines_more form xs k item c.args.out.now.items c.loop-start.out.items c.put_start.new.out.items lt c.start-item.is c.loop-start.invariant.text c.in_ok-put_start.ensures.text;
      bytes = All-more (λ s. HasBytes (form s)) xs k item lt c.loop-start.invariant.bytes (subst (λ s. HasBytes (form s)) c.start-item.is c.in_ok-put_start.ensures.bytes);
      states = All-more (λ s. NumbersFit (val_of s.state)) xs k item lt c.loop-start.invariant.states (subst (λ s. NumbersFit (val_of s.state)) c.start-item.is c.in_ok-put_start.ensures.state);
    }
