use Rattle.std.proofs.Common.{sym, subst}
use Rattle.tau_trace.specs.Run.{Run}
use Rattle.tau_revival.specs.Revival.{LeadsOn}
use Rattle.tau_run_journal.specs.Inner.Items.{TellsForm, AddsForm}
use Rattle.tau_run_journal.proofs.Answered.{if_ok_then}
use Rattle.tau_run_journal.proofs.ItemSteps.{some_added, item_formless, item_stepless, item_told}
use Rattle.tau_run_journal.proofs.items.take_item.Goals as goal

pub returns-in_default-clause-taken : goal.returns-in_default-clause-taken
returns-in_default-clause-taken c = item_formless c.args.trace.now.run c.args.bytes.now (subst (TellsForm c.args.bytes.now) c.in_default.is c.in_ok-read.ensures)

pub returns-then-not-added-clause-taken : goal.returns-then-not-added-clause-taken
returns-then-not-added-clause-taken c =
    let T : Run = c.args.trace.now.run in
    let U : Run = c.add_form.new.trace.run in
    let one = subst (TellsForm c.args.bytes.now) c.in-Some.is c.in_ok-read.ensures in
    item_stepless T c.args.bytes.now one.0 one.2 U (subst (AddsForm T one.0 U) c.if-not-added.true (c.in_ok-added.ensures one.0 one.1))

pub is_last_text-requires : goal.is_last_text-requires
is_last_text-requires c =
    let T : Run = c.args.trace.now.run in
    let U : Run = c.add_form.new.trace.run in
    let one = subst (TellsForm c.args.bytes.now) c.in-Some.is c.in_ok-read.ensures in
    some_added T one.0 U (subst (AddsForm T one.0 U) c.if-not-added.false (c.in_ok-added.ensures one.0 one.1))

pub returns-clause-taken : goal.returns-clause-taken
returns-clause-taken c =
    let T : Run = c.args.trace.now.run in
    let U : Run = c.add_form.new.trace.run in
    let one = subst (TellsForm c.args.bytes.now) c.in-Some.is c.in_ok-read.ensures in
    let added = subst (AddsForm T one.0 U) c.if-not-added.false (c.in_ok-added.ensures one.0 one.1) in
    if_ok_then _ _ c.is_last_text.result (λ b told. item_told T c.args.bytes.now one.0 one.2 c.requires.formed U b added told) c.is_last_text.ensures

pub returns-clause-cursor : goal.returns-clause-cursor
returns-clause-cursor c =
    let T : Run = c.args.trace.now.run in
    let U : Run = c.add_form.new.trace.run in
    let one = subst (TellsForm c.args.bytes.now) c.in-Some.is c.in_ok-read.ensures in
    let added = subst (AddsForm T one.0 U) c.if-not-added.false (c.in_ok-added.ensures one.0 one.1) in
    if_ok_then _ _ c.is_last_text.result
    (λ b told yes.
    subst (λ (R : Run). LeadsOn c.args.script.now R c.pass_due.new.cursor) (sym added.2)
    (c.cursors_lead_on.ensures.next c.args.script.now T c.pass_due.new.cursor added.0 (c.pass_due.ensures.moved c.requires.cursor)))
    c.is_last_text.ensures
