use Rattle.std.proofs.lemmas.Result.{on_ok_weaker}
use Rattle.tau_sexpr.specs.Form.{tree_of}
use Rattle.tau_states.specs.Opening.{opening_states}
use Rattle.tau_report.proofs.SavedRows.{few_records, counts_told}
use Rattle.tau_report.proofs.RowTexts.{puts_report}
use Rattle.tau_report.proofs.writing.put_report.Goals as goal

pub put_rows-requires-clause-few : goal.put_rows-requires-clause-few
put_rows-requires-clause-few c =
    let survey = c.in_ok-survey.survey in
    few_records c.args.trace.now.run (opening_states c.args.program.now.starts) survey.states.records c.records.result.now c.in_ok-survey.ensures.well_formed c.in_ok-survey.ensures.survey.holds c.records.ensures

pub put_form_line-requires-clause-words : goal.put_form_line-requires-clause-words
put_form_line-requires-clause-words c =
    let survey = c.in_ok-survey.survey in
    (counts_told c.args.trace.now.run (opening_states c.args.program.now.starts) survey.states.records survey.counts (tree_of c.in_ok-counts.counts) c.in_ok-survey.ensures.well_formed c.in_ok-survey.ensures.survey c.in_ok-counts.ensures).1

pub returns : goal.returns
returns c =
    let survey = c.in_ok-survey.survey in
    on_ok_weaker c.put_form_line.result
    (puts_report c.args.program.now c.args.trace.now.run c.opening.result.now survey.states.records c.records.result.now survey.counts (tree_of c.in_ok-counts.counts) c.args.out.now.items c.put_rows.new.out.items c.put_form_line.new.out.items
    c.requires.sound c.in_ok-survey.ensures.well_formed c.in_ok-survey.ensures.survey c.opening.ensures.value c.records.ensures c.in_ok-counts.ensures c.in_ok-put_rows.ensures)
    c.put_form_line.ensures.text
