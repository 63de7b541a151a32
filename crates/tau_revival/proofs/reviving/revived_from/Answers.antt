use Rattle.std.proofs.lemmas.Result.{IfOk-weaker}
use Rattle.tau_trace.specs.Run.{len}
use Rattle.tau_script.specs.Cursors.{CursorAt}
use Rattle.tau_revival.proofs.Cursors.{is_revival, is_sound, leads_on, made_of}
use Rattle.tau_revival.proofs.reviving.revived_from.Goals as goal

pub returns-clause-revival : goal.returns-clause-revival
returns-clause-revival c =
    let P = c.args.program.now in
    let T = c.args.trace.now.run in
    let d = c.due.new.cursor in
    let at : CursorAt P.script T (len T) d = c.requires.cursor d c.due.ensures.passes in
    IfOk-weaker c.with_script.result _ _ (λ Q is. is_revival P T d at c.requires.room Q (made_of P (len T) c.len.result d.entry c.in_ok-script.script Q is c.in_ok-script.ensures c.len.ensures.len)) c.with_script.ensures

pub returns-clause-sound : goal.returns-clause-sound
returns-clause-sound c =
    let P = c.args.program.now in
    let T = c.args.trace.now.run in
    let d = c.due.new.cursor in
    let at : CursorAt P.script T (len T) d = c.requires.cursor d c.due.ensures.passes in
    IfOk-weaker c.with_script.result _ _
    (λ Q is. is_sound P T d at c.requires.room Q (made_of P (len T) c.len.result d.entry c.in_ok-script.script Q is c.in_ok-script.ensures c.len.ensures.len) c.requires.sound)
    c.with_script.ensures

pub returns-clause-legal : goal.returns-clause-legal
returns-clause-legal c =
    let P = c.args.program.now in
    let T = c.args.trace.now.run in
    let d = c.due.new.cursor in
    let at : CursorAt P.script T (len T) d = c.requires.cursor d c.due.ensures.passes in
    IfOk-weaker c.with_script.result _ _
    (λ Q is. c.revival_keeps_legality.ensures P Q T c.requires.sound (is_revival P T d at c.requires.room Q (made_of P (len T) c.len.result d.entry c.in_ok-script.script Q is c.in_ok-script.ensures c.len.ensures.len)))
    c.with_script.ensures

pub returns-clause-cursor : goal.returns-clause-cursor
returns-clause-cursor c =
    let P = c.args.program.now in
    let T = c.args.trace.now.run in
    let d = c.due.new.cursor in
    let at : CursorAt P.script T (len T) d = c.requires.cursor d c.due.ensures.passes in
    IfOk-weaker c.with_script.result _ _
    (λ Q is. leads_on P T d at c.requires.room Q (made_of P (len T) c.len.result d.entry c.in_ok-script.script Q is c.in_ok-script.ensures c.len.ensures.len) c.revival_keeps_due.ensures c.requires.sound)
    c.with_script.ensures
