use Rattle.std.proofs.lemmas.Result.{on_ok_weaker}
use Rattle.tau_report.proofs.SavedRows.{few_records}
use Rattle.tau_report.proofs.RowTexts.{puts_saved}
use Rattle.tau_report.proofs.writing.put_saved.Goals as goal

pub put_rows-requires-clause-few : goal.put_rows-requires-clause-few
put_rows-requires-clause-few c =
    few_records c.args.trace.now.run c.requires.0 c.args.states.now.records c.records.result.now c.len-length.ensures.well_formed c.requires.1 c.records.ensures

pub returns : goal.returns
returns c =
    on_ok_weaker c.put_rows.result
    (λ rows P sound holds.
    puts_saved P c.args.trace.now.run c.opening.result.now c.args.states.now.records c.records.result.now c.args.out.now.items c.put_rows.new.out.items
    sound c.len-length.ensures.well_formed holds c.opening.ensures.value c.records.ensures rows)
    c.put_rows.ensures
