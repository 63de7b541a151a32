use Rattle.std.proofs.Common.{arith, Bool, List, Some, subst, ◌≡◌, ◌+◌, ◌-◌}
use Rattle.tau_explain.specs.Inner.Hearing.{MarksOne, MarksNeeds}
use Rattle.tau_explain.proofs.HearingLemmas.{Marked, marked_start, marked_more, marked_passed, written}
use Rattle.tau_explain.proofs.hearing.needed_at.Goals as goal

pub loop-at-init : goal.loop-at-init
loop-at-init c =
    marked_start c.args.trace.now.run c.args.place c.in_ok-marks.ensures.well_formed c.in_ok-marks.marks.known.items c.mark_needs.new.marks.known.items c.in_ok-marks.marks.entered.items c.mark_needs.new.marks.entered.items c.in_ok-marks.ensures.none c.in_ok-marks.ensures.not_entered
    c.mark_needs.ensures

pub loop-at-preserved-then-is_noted : goal.loop-at-preserved-then-is_noted
loop-at-preserved-then-is_noted c =
    let T = c.args.trace.now.run in
    let a = c.loop-at.at - 1 in
    let known = c.loop-at.marks.known in
    let entered = c.loop-at.marks.entered in
    let next : c.loop-at.at ≡ a + 1 = omega (arith, c.loop-at-test.true) in
    let before : Marked T c.args.place (a + 1) known.items entered.items = subst (λ n. Marked T c.args.place n known.items entered.items) next c.loop-at.invariant in
    let one : MarksOne (Some a) known.items c.mark.new.marks = subst (λ (l : List Bool). MarksOne (Some a) l c.mark.new.marks) c.deref_mut.ensures.value c.mark.ensures in
    let is = written known.len c.mark.new.marks known.items one.count (omega (arith, known.ok.0)) in
    let needs = subst (λ (l : List Bool). MarksNeeds T a l c.mark_needs-then-is_noted.new.marks.known.items entered.items c.mark_needs-then-is_noted.new.marks.entered.items) is c.mark_needs-then-is_noted.ensures in
    marked_more T c.args.place c.in_ok-marks.ensures.well_formed a known.items entered.items before (omega (arith, c.loop-at.auto.at, c.loop-at-test.true)) c.mark.new.marks c.mark_needs-then-is_noted.new.marks.known.items c.mark_needs-then-is_noted.new.marks.entered.items one needs
    (c.is_noted.ensures.0 c.if-is_noted.true)

pub loop-at-preserved : goal.loop-at-preserved
loop-at-preserved c =
    let T = c.args.trace.now.run in
    let a = c.loop-at.at - 1 in
    let known = c.loop-at.marks.known in
    let entered = c.loop-at.marks.entered in
    let next : c.loop-at.at ≡ a + 1 = omega (arith, c.loop-at-test.true) in
    let before : Marked T c.args.place (a + 1) known.items entered.items = subst (λ n. Marked T c.args.place n known.items entered.items) next c.loop-at.invariant in
    marked_passed T c.args.place c.in_ok-marks.ensures.well_formed a known.items entered.items before (omega (arith, c.loop-at.auto.at, c.loop-at-test.true)) (λ n. let t = c.is_noted.ensures.1 n in let f = c.if-is_noted.false in cc)
