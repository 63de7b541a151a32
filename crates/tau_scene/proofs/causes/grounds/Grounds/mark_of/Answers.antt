use Rattle.std.proofs.Common.{◌∙◌, ap, refl}
use Rattle.tau_scene.specs.Looks.Kinds.{mark_look, row_look}
use Rattle.tau_scene.proofs.Marking.{step_marked}
use Rattle.tau_scene.proofs.causes.grounds.Grounds.mark_of.Goals as goal

pub returns : goal.returns
returns c cut points g asked =
    let s = c.args.step.now in
    step_marked c.args.index.now cut points c.args.self.now.fallen c.args.self.now.kept.items c.args.self.now.resting g c.args.place s c.made_at-made.result c.keeps.result c.is_made_in.result c.is_left_in-undone.result
    (record { falls = c.falls-falls.result; undone = c.is_left_in-undone.result; mark = c.of-mark.result; row = c.of.result })
    c.requires.stands c.made_at-made.ensures asked c.keeps.ensures c.is_made_in.ensures c.is_left_in-undone.ensures
    (c.of-mark.ensures ∙ (λ i. mark_look s (c.falls-falls.ensures i) (c.saved_mark-saved.ensures i)))
    (c.of.ensures ∙ ap (λ b. row_look s c.of-mark.result b c.is_left_in-undone.result) c.falls-falls.ensures)
    refl c.falls-falls.ensures
