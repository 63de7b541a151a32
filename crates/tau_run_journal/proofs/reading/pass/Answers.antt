use Rattle.std.proofs.Common.{◌≡◌, ℕ, ◌+◌, [], take, refl, sym, ap, subst, ◌∙◌, arith}
use Rattle.tau_trace.specs.declared.opening.Opening.{Opening}
use Rattle.tau_trace.specs.Run.{Run}
use Rattle.tau_trace.proofs.Prefix.{run_of}
use Rattle.tau_script.specs.declared.cursor.Cursor.{Cursor}
use Rattle.tau_revival.specs.Revival.{LeadsOn}
use Rattle.tau_run_journal.specs.Standing.{opened, StandsFor}
use Rattle.tau_run_journal.specs.Inner.Items.{IsPassed}
use Rattle.tau_run_journal.proofs.Standings.{stands_first, sound_first, passed_none, passed_some}
use Rattle.tau_run_journal.proofs.reading.pass.Goals as goal

pub begin-requires : goal.begin-requires
begin-requires c = c.in_ok-opening.ensures.sound (sound_first c.args.records.now c.args.program (omega arith) c.requires.first)

pub loop-place-init : goal.loop-place-init
loop-place-init c =
    let U = c.in_ok-begin.field-0.run in
    let begun : U ≡ opened c.args.program = c.in_ok-begin.ensures ∙ ap (λ (o : Opening). run_of o []) c.in_ok-opening.ensures.opening in
    record {
      behind = omega arith;
      within = omega arith;
      stand = stands_first c.args.records.now c.args.program U (omega arith) c.requires.first begun;
      leads = subst (λ (d : Cursor). LeadsOn c.args.program.script U d) (sym c.first.ensures) (c.cursors_lead_on.ensures.first c.args.program.script U (ap (λ (R : Run). R.steps) begun));
      fault = refl;
    }

pub returns-then-is_some : goal.returns-then-is_some
returns-then-is_some c =
    let read = c.take_record.new.read in
    passed_some c.args.records.now (c.loop-place.place + 1) c.args.end read.program read.trace.run read.cursor c.in_ok-fault.fault (omega arith) (sym c.is_some.ensures ∙ c.if-is_some.true) c.in_ok-fault.ensures.taken

pub loop-place-preserved : goal.loop-place-preserved
loop-place-preserved c =
    let read = c.take_record.new.read in
    let passed = passed_none c.args.records.now (c.loop-place.place + 1) read.program read.trace.run read.cursor c.in_ok-fault.fault (sym c.is_some.ensures ∙ c.if-is_some.false) c.in_ok-fault.ensures.taken in
    record { behind = omega arith; within = omega arith; stand = passed.0; leads = passed.1; fault = c.take_record.ensures.fault ∙ c.loop-place.invariant.fault }

pub returns : goal.returns
returns c =
    let read = c.loop-place.read in
    let all : c.loop-place.place ≡ c.args.end = omega (arith, c.loop-place.invariant.within) in
    subst (IsPassed c.args.records.now c.args.end read.program read.trace.run read.cursor) (sym c.loop-place.invariant.fault)
    (subst (λ (n : ℕ). StandsFor (take n c.args.records.now) read.program read.trace.run) all c.loop-place.invariant.stand, c.loop-place.invariant.leads)
