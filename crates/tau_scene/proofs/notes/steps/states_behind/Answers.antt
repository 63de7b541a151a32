use Rattle.std.proofs.Common.{◌≡◌, ◌∙◌, None, ap, sym, subst, arith}
use Rattle.std.specs.Option.{option_copied}
use Rattle.tau_trace.specs.Run.{step_at}
use Rattle.tau_states.specs.Opening.{opening_states}
use Rattle.tau_states.specs.Table.{Holds}
use Rattle.tau_report.proofs.Prefixes.{past_last}
use Rattle.tau_scene.specs.Notes.Inner.Noting.{first_steps}
use Rattle.tau_scene.proofs.Saving.{states_next}
use Rattle.tau_scene.proofs.notes.steps.states_behind.Goals as goal

pub loop-place-init : goal.loop-place-init
loop-place-init c = c.in_ok-states.ensures c.args.trace.now.run.opening c.requires.starts

pub unreachable-requires : goal.unreachable-requires
unreachable-requires c =
    let T = c.args.trace.now.run in
    let none : None ≡ step_at T c.loop-place.place = sym (ap option_copied c.in-None.is) ∙ c.step.ensures in
    omega (arith, past_last T c.loop-place.place none, c.loop-place-test.true, c.requires.within)

pub loop-place-preserved : goal.loop-place-preserved
loop-place-preserved c = states_next c.args.trace.now.run c.requires.well_formed (opening_states c.args.starts.now) c.loop-place.place c.in-Some.step.now c.loop-place.states.records c.note.new.self.records (sym c.in-Some.ensures) c.in_ok-note-in-Some.ensures.ok c.loop-place.invariant

pub returns : goal.returns
returns c =
    let all : c.loop-place.place ≡ c.args.count = omega (arith, c.loop-place-test.false, c.loop-place.auto.place-end) in
    subst (λ n. Holds (first_steps c.args.trace.now.run n) (opening_states c.args.starts.now) c.loop-place.states.records) all c.loop-place.invariant
