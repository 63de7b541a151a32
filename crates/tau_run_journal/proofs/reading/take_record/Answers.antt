use Rattle.std.proofs.Common.{◌≢◌, sym, take, ◌∙◌, subst, arith}
use Rattle.std.proofs.lemmas.Bool.{false≢true}
use Rattle.tau_journal.specs.Records.{going_on}
use Rattle.tau_run_journal.specs.Inner.Items.{TakesItem}
use Rattle.tau_run_journal.proofs.Answered.{if_ok_both}
use Rattle.tau_run_journal.proofs.Runs.{run_of}
use Rattle.tau_run_journal.proofs.Unique.{formed_of}
use Rattle.tau_run_journal.proofs.Standings.{mark_passed, item_passed, item_left}
use Rattle.tau_run_journal.proofs.reading.take_record.Goals as goal

pub take_mark-requires-clause-sound : goal.take_mark-requires-clause-sound
take_mark-requires-clause-sound c = (run_of (take c.args.place c.args.records.now) c.args.read.now.program c.args.read.now.trace.run c.requires.stand).sound

pub returns-then-is_mark-clause-taken : goal.returns-then-is_mark-clause-taken
returns-then-is_mark-clause-taken c =
    if_ok_both _ _ _ c.take_mark.result
    (λ o taken leads. mark_passed c.args.records.now c.args.place c.args.read.now.program c.args.read.now.trace.run c.requires.stand c.in-Some.record.now (sym c.in-Some.ensures)
    (c.is_mark.ensures.0 c.if-is_mark.true) c.take_mark.new.program c.take_mark.new.cursor o taken leads)
    c.take_mark.ensures.taken c.take_mark.ensures.cursor

pub take_item-requires-clause-few : goal.take_item-requires-clause-few
take_item-requires-clause-few c = (run_of (take c.args.place c.args.records.now) c.args.read.now.program c.args.read.now.trace.run c.requires.stand).sound.entries_limit

pub take_item-requires-clause-formed : goal.take_item-requires-clause-formed
take_item-requires-clause-formed c = formed_of (take c.args.place c.args.records.now) c.args.read.now.program c.args.read.now.trace.run c.requires.stand

pub returns-then-taken-clause-taken : goal.returns-then-taken-clause-taken
returns-then-taken-clause-taken c =
    let U = c.args.read.now.trace.run in
    let V = c.take_item.new.trace.run in
    item_passed c.args.records.now c.args.place c.args.read.now.program U c.requires.stand c.in-Some.record.now (sym c.in-Some.ensures) V c.take_item.new.cursor
    (subst (TakesItem U c.in-Some.record.now V) c.if-taken.true c.in_ok-taken.ensures.taken) (c.in_ok-taken.ensures.cursor c.if-taken.true)

pub returns-else-taken-clause-taken : goal.returns-else-taken-clause-taken
returns-else-taken-clause-taken c =
    let U = c.args.read.now.trace.run in
    let V = c.take_item.new.trace.run in
    let no : c.in-Some.record.now ≢ going_on = λ e. false≢true (sym c.if-is_mark.false ∙ c.is_mark.ensures.1 e) in
    (omega arith, item_left c.args.records.now c.args.place c.args.read.now.program U c.requires.stand c.in-Some.record.now (sym c.in-Some.ensures) no V (subst (TakesItem U c.in-Some.record.now V) c.if-taken.false c.in_ok-taken.ensures.taken))
