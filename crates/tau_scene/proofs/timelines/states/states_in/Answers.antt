use Rattle.std.proofs.Common.{◌≡◌, List, length, subst, arith}
use Rattle.tau_trace.specs.Run.{len}
use Rattle.tau_svg.specs.declared.shapes.window.Window.{Window}
use Rattle.tau_scene.specs.declared.timelines.states.Course.{Course}
use Rattle.tau_scene.specs.Timelines.Inner.Courses.{AreSeen}
use Rattle.tau_scene.proofs.Lanes.{lane_states}
use Rattle.tau_scene.proofs.timelines.states.states_in.Goals as goal

pub returns : goal.returns
returns c =
    let T = c.args.trace.now.run in
    let courses = c.loop-place.courses.items in
    let states = c.in_ok-states.states.items in
    let end : c.loop-place.place ≡ len T = omega (arith, c.loop-place.auto.place-end, c.loop-place-test.false, c.len-steps.ensures.len) in
    let seen = subst (λ (cs : List Course). AreSeen c.window.result cs (length cs) states) c.deref.ensures.value c.in_ok-states.ensures in
    lane_states T c.len-steps.ensures.well_formed c.args.layout.now c.requires.plan.lanes_are c.loop-place.place courses states end c.loop-place.invariant
    (subst (λ (v : Window). AreSeen v courses (length courses) states) c.window.ensures.window seen)
