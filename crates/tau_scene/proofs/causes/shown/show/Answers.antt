use Rattle.std.proofs.Common.{◌⊎◌, ◌↔◌, All, List, inl, inr, length, sym, subst}
use Rattle.std.specs.Prelude.{Contains}
use Rattle.std.specs.declared.alloc.Global.{Global}
use Rattle.std.specs.declared.vec.Vec.{Vec}
use Rattle.tau_points.specs.declared.point.Point.{Point}
use Rattle.tau_trace.specs.Run.{Run}
use Rattle.tau_trace.specs.Known.{WellFormed}
use Rattle.tau_explain.specs.Links.Links.{IsMade}
use Rattle.tau_svg.specs.declared.shapes.window.Window.{Window}
use Rattle.tau_scene.specs.declared.timelines.states.State.{State}
use Rattle.tau_scene.specs.declared.causes.sources.Sourced.{Sourced}
use Rattle.tau_scene.specs.Causes.Looks.{AreStepMarks}
use Rattle.tau_scene.specs.Causes.Inner.Resting.{AreLanesSourced, AsksInLanes, ChecksBetween, AreGrounds}
use Rattle.tau_scene.specs.Causes.Inner.Showing.{AreLanesShown}
use Rattle.tau_scene.proofs.Showing.{asked_made, lanes_seen}
use Rattle.tau_scene.proofs.Marking.{steps_marked}
use Rattle.tau_scene.proofs.causes.shown.show.Goals as goal

pub sourced_lanes-requires-clause-well_formed : goal.sourced_lanes-requires-clause-well_formed
sourced_lanes-requires-clause-well_formed c = subst (λ (R : Run). WellFormed R) (sym c.requires.index) c.len-steps.ensures.well_formed

pub grounds_of-requires-clause-made : goal.grounds_of-requires-clause-made
grounds_of-requires-clause-made c =
    let T = c.args.trace.now.run in
    let R = c.args.index.now in
    let lanes = c.in_ok-lanes.lanes.items in
    let sourced = c.in_ok-sourced.sourced.items in
    let points = c.in_ok-points.points.items in
    let told : AreLanesSourced R lanes (length lanes) sourced = subst (λ (l : List (Vec State Global)). AreLanesSourced R l (length l) sourced) c.deref.ensures.value c.in_ok-sourced.ensures in
    let asks : (q : Point) → Contains points q ↔ (AsksInLanes sourced (length sourced) q ⊎ ChecksBetween R c.window-window.result.from c.window-window.result.to q) = subst (λ (l : List (Vec Sourced Global)). (q : Point) → Contains points q ↔ (AsksInLanes l (length l) q ⊎ ChecksBetween R c.window-window.result.from c.window-window.result.to q)) c.deref-2.ensures.value c.in_ok-points.ensures in
    subst (λ (l : List Point). All (IsMade T) l) (sym c.deref-3.ensures.value) (subst (λ (r : Run). All (IsMade r) points) c.requires.index (asked_made R lanes sourced c.window-window.result.from c.window-window.result.to points told asks))

pub returns-clause-states : goal.returns-clause-states
returns-clause-states c =
    let T = c.args.trace.now.run in
    let R = c.args.index.now in
    let lanes = c.in_ok-lanes.lanes.items in
    let sourced = c.in_ok-sourced.sourced.items in
    let points = c.in_ok-points.points.items in
    let g = c.in_ok-grounds.grounds in
    let seen = c.in_ok-states.states.items in
    let told : AreLanesSourced T lanes (length lanes) sourced = subst (λ (r : Run). AreLanesSourced r lanes (length lanes) sourced) c.requires.index (subst (λ (l : List (Vec State Global)). AreLanesSourced R l (length l) sourced) c.deref.ensures.value c.in_ok-sourced.ensures) in
    let asks : (q : Point) → Contains points q ↔ (AsksInLanes sourced (length sourced) q ⊎ ChecksBetween R c.window-window.result.from c.window-window.result.to q) = subst (λ (l : List (Vec Sourced Global)). (q : Point) → Contains points q ↔ (AsksInLanes l (length l) q ⊎ ChecksBetween R c.window-window.result.from c.window-window.result.to q)) c.deref-2.ensures.value c.in_ok-points.ensures in
    let grounds : AreGrounds T c.args.cut.now points g.fallen g.kept.items g.resting = subst (λ (l : List Point). AreGrounds T c.args.cut.now l g.fallen g.kept.items g.resting) c.deref-3.ensures.value c.in_ok-grounds.ensures in
    let shown : AreLanesShown T g.fallen g.kept.items g.resting sourced (length sourced) seen = subst (λ (l : List (Vec Sourced Global)). AreLanesShown T g.fallen g.kept.items g.resting l (length l) seen) c.deref-4.ensures.value c.in_ok-states.ensures in
    lanes_seen T c.args.layout.now c.args.cut.now points g.fallen g.kept.items g.resting grounds lanes sourced seen c.in_ok-lanes.ensures told shown (λ q a. (asks q).1 (inl a))

pub returns-clause-marks : goal.returns-clause-marks
returns-clause-marks c =
    let T = c.args.trace.now.run in
    let R = c.args.index.now in
    let v = c.window-window.result in
    let sourced = c.in_ok-sourced.sourced.items in
    let points = c.in_ok-points.points.items in
    let g = c.in_ok-grounds.grounds in
    let marks = c.in_ok-marks.marks.items in
    let asks : (q : Point) → Contains points q ↔ (AsksInLanes sourced (length sourced) q ⊎ ChecksBetween R v.from v.to q) = subst (λ (l : List (Vec Sourced Global)). (q : Point) → Contains points q ↔ (AsksInLanes l (length l) q ⊎ ChecksBetween R v.from v.to q)) c.deref-2.ensures.value c.in_ok-points.ensures in
    let grounds : AreGrounds T c.args.cut.now points g.fallen g.kept.items g.resting = subst (λ (l : List Point). AreGrounds T c.args.cut.now l g.fallen g.kept.items g.resting) c.deref-3.ensures.value c.in_ok-grounds.ensures in
    let asked : (q : Point) → ChecksBetween T v.from v.to q → Contains points q = λ q b. (asks q).1 (inr (subst (λ (r : Run). ChecksBetween r v.from v.to q) (sym c.requires.index) b)) in
    subst (λ (x : Window). AreStepMarks T x c.args.cut.now marks) c.window-window.ensures.window (steps_marked T v c.args.cut.now points g.fallen g.kept.items g.resting marks grounds c.in_ok-marks.ensures asked)
