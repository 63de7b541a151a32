use Rattle.std.proofs.Common.{◌<◌, length, subst, arith, All}
use Rattle.std.proofs.lemmas.List.{take_all}
use Rattle.std.proofs.lemmas.List.Elements.{All-more}
use Rattle.tau_sexpr.specs.Printing.{HasBytes}
use Rattle.tau_forms.specs.Inner.Fitting.{HasFittingNumbers}
use Rattle.tau_forms.specs.Printed.{entry_form}
use Rattle.tau_forms.proofs.LineTexts.{lines_more_at}
use Rattle.tau_forms.proofs.printing.put_entries.Goals as goal

pub loop-entry-preserved : goal.loop-entry-preserved
loop-entry-preserved c =
    let xs = c.args.entries.now in
    let k = c.loop-entry.entry-index in
    let lt : k < length xs = omega arith in
    record {
      text = lines_more_at entry_form xs k _ c.args.out.now.items c.loop-entry.out.items c.put_entry.new.out.items lt c.loop-entry.invariant.text c.in_ok-put_entry.ensures.text;
      bytes = All-more (λ e. HasBytes (entry_form e)) xs k _ lt c.loop-entry.invariant.bytes c.in_ok-put_entry.ensures.bytes;
      numbers = All-more HasFittingNumbers xs k _ lt c.loop-entry.invariant.numbers c.in_ok-put_entry.ensures.numbers;
    }

pub returns-clause-bytes : goal.returns-clause-bytes
returns-clause-bytes c =
    subst (All (λ e. HasBytes (entry_form e))) (take_all c.loop-entry.entry-index c.args.entries.now (omega arith)) c.loop-entry.invariant.bytes
