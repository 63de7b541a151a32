use Rattle.std.proofs.Common.{◌∙◌, ◌+◌, ap}
use Rattle.std.specs.Option.{option_copied}
use Rattle.std.proofs.lemmas.Result.{IfOk-weaker}
use Rattle.tau_trace.specs.declared.opening.Opening.{Opening}
use Rattle.tau_scene.specs.Notes.Inner.Noting.{first_steps, note_text}
use Rattle.tau_scene.proofs.Noting.{note_said}
use Rattle.tau_scene.proofs.notes.steps.note_at.Goals as goal

pub returns : goal.returns
returns c =
    let T = c.args.trace.now.run in
    let s = c.args.step.now in
    let o = option_copied c.saved_by.result in
    IfOk-weaker c.note_of.result _ _ (λ v text P told h. note_said P T c.requires.well_formed c.args.place c.requires.place c.args.cut.now s c.args.falls o c.in_ok-cause.cause c.args.states.now.records v.items c.requires.cut c.requires.stands c.in_ok-cause.ensures
    (λ values holds. c.saved_by.ensures (first_steps T (c.args.place + 1)) values holds)
    (text ∙ ap (λ (x : Opening). note_text x.names s c.args.falls o c.in_ok-cause.cause) c.opening.ensures.value) told h) c.note_of.ensures
