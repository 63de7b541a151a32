use Rattle.std.specs.Prelude.{Result, Ok, Err, OnOk}
use Rattle.tau_states.specs.Table.{Advances}
use Rattle.tau_report.specs.Inner.Counted.{AdvancesSurvey}
use Rattle.tau_report.proofs.Surveys.{advances_survey}
use Rattle.tau_report.proofs.survey.Survey.note.Goals as goal

on_ok : {A E : Type 0} (P Q : Type 0) (r : Result A E) → (P → Q) → OnOk r P → OnOk r Q
on_ok P Q (Ok x) f p = f p
on_ok P Q (Err e) f p = p

pub returns : goal.returns
returns c =
    let s = c.args.step.now in
    let old = c.args.self.now.states.records in
    let new = c.note.new.self.records in
    let counts = c.args.self.now.counts in
    on_ok (Advances s old new) (AdvancesSurvey s old counts new c.after-self.result) c.note.result
    (advances_survey s old new counts c.after-self.result c.is_falling.result c.is_falling.ensures c.after-self.ensures)
    c.note.ensures.ok
