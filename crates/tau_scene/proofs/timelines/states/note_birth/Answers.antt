use Rattle.std.proofs.Common.{◌∙◌, ap, sym, add-one, Some}
use Rattle.tau_trace.specs.declared.step.Step.TheVariants.{New}
use Rattle.tau_trace.specs.Numbering.{IsNew}
use Rattle.tau_trace.proofs.Lists.{same_some}
use Rattle.tau_scene.proofs.Lanes.{behind_birth, without_birth}
use Rattle.tau_scene.proofs.timelines.states.note_birth.Goals as goal

pub returns-in-Some : goal.returns-in-Some
returns-in-Some c =
    let T = c.args.trace.now.run in
    let k = c.args.place in
    let stands = c.requires.stands ∙ ap Some c.in-New.is in
    let new : IsNew T k c.in-New.who c.in-Some.born = record { behaviour = c.in-New.behaviour; node = c.in-New.node; state = c.in-New.state; stands = stands; made = c.in-Some.ensures.made (New c.in-New.who c.in-New.behaviour c.in-New.node c.in-New.state) stands } in
    rw add-one (behind_birth T c.requires.well_formed c.args.layout.now c.requires.plan.lanes_are k c.in-Some.born c.in-New.who c.args.step.now c.rank-rank.result c.args.courses.now.items c.note_new.new.courses.items c.requires.stands new c.rank-rank.ensures c.requires.courses c.note_new.ensures)

pub returns-in_default : goal.returns-in_default
returns-in_default c =
    let T = c.args.trace.now.run in
    rw add-one (without_birth T c.requires.well_formed c.args.layout.now c.requires.plan.lanes_are c.args.place c.args.step.now c.args.courses.now.items c.requires.stands
    (λ by t n. c.in_default.not-New by n.behaviour n.node n.state (same_some (sym c.requires.stands ∙ n.stands))) c.requires.courses)
