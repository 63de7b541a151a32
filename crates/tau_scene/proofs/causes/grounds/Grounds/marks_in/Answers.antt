use Rattle.std.proofs.Common.{◌≡◌, ◌∙◌, ◌-◌, ap, sym, subst, arith, None}
use Rattle.std.specs.Option.{option_copied}
use Rattle.tau_trace.specs.Run.{Run, step_at}
use Rattle.tau_report.proofs.Prefixes.{past_last}
use Rattle.tau_scene.specs.Causes.Inner.Showing.{IsMarkedStep, AreMarkedSteps}
use Rattle.tau_scene.proofs.Marking.{marked_next, marked_none}
use Rattle.tau_scene.proofs.causes.grounds.Grounds.marks_in.Goals as goal

pub loop-place-init : goal.loop-place-init
loop-place-init c = record { least = omega arith; marked = marked_none c.args.trace.now.run c.args.self.now.fallen c.args.self.now.kept.items c.args.self.now.resting c.args.window.from c.new-marks.result.items c.new-marks.ensures.items }

pub unreachable-requires : goal.unreachable-requires
unreachable-requires c =
    let T = c.args.trace.now.run in
    let none : None ≡ step_at T c.loop-place.place = sym (ap option_copied c.in-None.is) ∙ c.step.ensures in
    omega (arith, past_last T c.loop-place.place none, c.loop-place-test.true, c.requires.within)

pub loop-place-preserved : goal.loop-place-preserved
loop-place-preserved c =
    let T = c.args.trace.now.run in
    record {
      least = omega (arith, c.loop-place.invariant.least);
      marked = marked_next T c.args.self.now.fallen c.args.self.now.kept.items c.args.self.now.resting c.args.window.from c.loop-place.place c.in-Some.step.now c.mark_of.result c.loop-place.marks.items c.push.new.self.items c.loop-place.invariant.least c.loop-place.invariant.marked c.in_ok-push-in-Some.ensures.items (sym c.in-Some.ensures)
          (subst (λ (R : Run). IsMarkedStep R c.args.self.now.fallen c.args.self.now.kept.items c.args.self.now.resting c.loop-place.place c.in-Some.step.now c.mark_of.result) c.requires.index c.mark_of.ensures);
    }

pub returns : goal.returns
returns c =
    let all : c.loop-place.place ≡ c.args.window.to = omega (arith, c.loop-place-test.false, c.loop-place.auto.place-end, c.requires.ordered) in
    subst (λ n. AreMarkedSteps c.args.trace.now.run c.args.self.now.fallen c.args.self.now.kept.items c.args.self.now.resting c.args.window.from (n - c.args.window.from) c.loop-place.marks.items) all c.loop-place.invariant.marked
