use Rattle.std.proofs.Common.{◌≡◌, ◌∙◌, [], None, ap, sym, subst, arith, add-one}
use Rattle.std.specs.Option.{option_copied}
use Rattle.tau_trace.specs.Run.{Run, step_at}
use Rattle.tau_script.specs.Openings.{program_opening}
use Rattle.tau_views.specs.Kept.{AreViews, held_of, letters_of}
use Rattle.tau_views.proofs.Fronts.{next_of, grown, whole, past_last}
use Rattle.tau_views.proofs.anew.views_of.Goals as goal

pub loop-place-init : goal.loop-place-init
loop-place-init g c =
    let opened = ap (λ P. program_opening P) c.program.ensures.program ∙ sym c.trace-trace.ensures.fitting.opening in
    (c.in_ok-front.ensures.run ∙ ap (λ o. record { opening = o; steps = [] }) opened, c.in_ok-front.ensures.views)

pub note-requires-clause-follows : goal.note-requires-clause-follows
note-requires-clause-follows g c =
    (next_of c.args.system.now.program c.trace-trace.result.now.run c.loop-place.front.trace.run c.loop-place.place c.in-Some.step.now c.trace-trace.ensures.well_formed c.trace-trace.ensures.fitting (sym c.in-Some.ensures) c.loop-place.invariant.0).0

pub note-requires-clause-ready : goal.note-requires-clause-ready
note-requires-clause-ready g c =
    (next_of c.args.system.now.program c.trace-trace.result.now.run c.loop-place.front.trace.run c.loop-place.place c.in-Some.step.now c.trace-trace.ensures.well_formed c.trace-trace.ensures.fitting (sym c.in-Some.ensures) c.loop-place.invariant.0).1

pub unreachable-requires : goal.unreachable-requires
unreachable-requires g c =
    let T = c.trace-trace.result.now.run in
    let none : None ≡ step_at T c.loop-place.place = sym (ap option_copied c.in-None.is) ∙ c.step.ensures in
    omega (arith, past_last T c.loop-place.place none, c.loop-place-test.true, c.len-place-end.ensures.len)

pub loop-place-preserved : goal.loop-place-preserved
loop-place-preserved g c =
    rw add-one
    (grown c.trace-trace.result.now.run c.loop-place.front.trace.run c.note.new.self.trace.run c.loop-place.place c.in-Some.step.now (sym c.in-Some.ensures) c.loop-place.invariant.0 c.in_ok-note-in-Some.ensures.run, c.in_ok-note-in-Some.ensures.views)

pub returns : goal.returns
returns g c =
    let T = c.trace-trace.result.now.run in
    let views = c.loop-place.front.views in
    let F : Run → Type 0 = λ R. AreViews g.V.View.drops_edge g.V.View.drops_root R (held_of g.V.View.held views.own.items) (letters_of g.V.View.held views.letters.items) in
    subst F (whole T c.loop-place.front.trace.run c.loop-place.place (omega (arith, c.loop-place-test.false, c.loop-place.auto.place-end, c.len-place-end.ensures.len)) c.loop-place.invariant.0 ∙ c.trace-trace.ensures.run) c.loop-place.invariant.1
