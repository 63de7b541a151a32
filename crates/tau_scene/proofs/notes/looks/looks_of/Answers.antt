use Rattle.std.proofs.Common.{◌∙◌, length, List, ap, sym, subst}
use Rattle.std.proofs.lemmas.List.{length-map}
use Rattle.tau_tree.specs.declared.starts.Start.{Start}
use Rattle.tau_trace.specs.declared.opening.Opening.{Opening}
use Rattle.tau_svg.specs.declared.shapes.window.Window.{Window}
use Rattle.tau_scene.specs.declared.causes.marks.StepMark.{StepMark}
use Rattle.tau_scene.specs.Causes.Looks.{AreStepMarks}
use Rattle.tau_scene.specs.Notes.Looks.{AreStepLooks}
use Rattle.tau_scene.proofs.notes.looks.looks_of.Goals as goal

pub step_looks-requires-clause-starts : goal.step_looks-requires-clause-starts
step_looks-requires-clause-starts c = ap (λ (o : Opening). length o.names) c.requires.opening ∙ length-map c.args.program.now.starts (λ (s : Start). s.name)

pub step_looks-requires-clause-marks : goal.step_looks-requires-clause-marks
step_looks-requires-clause-marks c = subst (λ (l : List StepMark). AreStepMarks c.args.trace.now.run c.window-window.result c.args.cut.now l) (sym c.deref.ensures.value) (subst (λ (v : Window). AreStepMarks c.args.trace.now.run v c.args.cut.now c.in_ok-shown.shown.marks.items) (sym c.window-window.ensures.window) c.in_ok-shown.ensures.marks)

pub endings_in-requires-clause-starts : goal.endings_in-requires-clause-starts
endings_in-requires-clause-starts c = ap (λ (o : Opening). length o.names) c.requires.opening ∙ length-map c.args.program.now.starts (λ (s : Start). s.name)

pub returns : goal.returns
returns c = record {
  states_are = c.in_ok-shown.ensures.states;
  steps_are = subst (λ (v : Window). AreStepLooks c.args.program.now c.args.trace.now.run v c.args.cut.now c.in_ok-steps.steps.items) c.window-window.ensures.window c.in_ok-steps.ensures;
  ends_are = c.in_ok-ends.ensures;
}
