use Rattle.std.proofs.Common.{subst}
use Rattle.tau_svg.specs.declared.shapes.window.Window.{Window}
use Rattle.tau_scene.specs.Timelines.Inner.Courses.{Notes, Rewrites}
use Rattle.tau_scene.proofs.Lanes.{midway, midway_none, low_point}
use Rattle.tau_scene.proofs.timelines.states.note_actor.Goals as goal

pub returns-in_default : goal.returns-in_default
returns-in_default c = midway_none c.args.index.now c.requires.well_formed c.args.layout.now c.requires.plan.lanes_are c.args.place c.args.courses.now.items c.in_default.ensures c.requires.courses

pub note_at-requires-clause-low : goal.note_at-requires-clause-low
note_at-requires-clause-low c = low_point c.args.index.now c.requires.well_formed c.args.place c.in-Some.made c.requires.place c.in-Some.ensures

pub returns : goal.returns
returns c = midway c.args.index.now c.requires.well_formed c.args.layout.now c.requires.plan.lanes_are c.args.place c.args.step.now c.in-Some.made c.rank-rank.result c.args.courses.now.items c.note_at.new.courses.items c.requires.stands c.in-Some.ensures c.rank-rank.ensures c.requires.courses
    (subst (λ (v : Window). Rewrites c.rank-rank.result (Notes v c.args.step.now c.in-Some.made c.args.place) c.args.courses.now.items c.note_at.new.courses.items) c.window.ensures.window c.in_ok-note_at.ensures)
