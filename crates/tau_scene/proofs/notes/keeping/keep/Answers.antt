use Rattle.std.proofs.Common.{◌≡◌, refl, sym, subst, arith, Some}
use Rattle.tau_value.specs.declared.shared.Value.{Value}
use Rattle.tau_states.specs.Answers.{IsSavedAfter}
use Rattle.tau_explain.proofs.PushLemmas.{marked_read, unmarked_read}
use Rattle.tau_scene.specs.declared.notes.keeping.Kept.{Kept}
use Rattle.tau_scene.proofs.KeptLemmas.{keeps_unmarked, keeps_other, keeps_nothing, keeps_one, closes_told, no_closer}
use Rattle.tau_scene.proofs.notes.keeping.keep.Goals as goal

pub returns-then-not-marks-place : goal.returns-then-not-marks-place
returns-then-not-marks-place c = keeps_unmarked c.args.trace.now.run c.requires.well_formed c.args.layout.now c.requires.plan.lanes_are c.args.marks.now c.args.place c.args.states.now.records c.args.kept.now.items
    (unmarked_read c.args.marks.now c.args.place _ (omega (arith, c.requires.place, c.requires.marks)) c.if-not-marks-place.true)

pub returns-in_default : goal.returns-in_default
returns-in_default c = keeps_other c.args.trace.now.run c.requires.well_formed c.args.layout.now c.requires.plan.lanes_are c.args.marks.now c.args.place c.args.states.now.records c.args.kept.now.items
    (no_closer c.args.trace.now.run c.args.place (sym c.in_default.ensures))

pub returns-in_default-saved_of : goal.returns-in_default-saved_of
returns-in_default-saved_of c = keeps_nothing c.args.trace.now.run c.requires.well_formed c.args.layout.now c.requires.plan.lanes_are c.args.marks.now c.args.place c.args.states.now.records c.args.kept.now.items
    c.in-Some.who c.requires.place (closes_told c.args.trace.now.run c.args.place c.in-Some.who (sym c.in-Some.ensures)) c.in_default-saved_of.ensures

pub returns : goal.returns
returns c =
    let one : Kept = record { place = c.args.place; value = c.in_ok-copy.field-0 } in
    let same : c.in_ok-copy.field-0 ≡ c.in-Some-saved_of.value.now = c.in_ok-copy.ensures in
    keeps_one c.args.trace.now.run c.requires.well_formed c.args.layout.now c.requires.plan.lanes_are c.args.marks.now c.args.place c.args.states.now.records c.args.kept.now.items c.put.new.kept.items
    c.in-Some.who c.rank.result one c.requires.place (closes_told c.args.trace.now.run c.args.place c.in-Some.who (sym c.in-Some.ensures))
    (marked_read c.args.marks.now c.args.place _ (omega (arith, c.requires.place, c.requires.marks)) c.if-not-marks-place.false)
    (λ U values h. subst (λ (v : Value). IsSavedAfter U values c.in-Some.who (Some v)) (sym same) (c.in-Some-saved_of.ensures U values h))
    refl c.rank.ensures c.put.ensures
