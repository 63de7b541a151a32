use Rattle.std.proofs.Common.{◌≡◌, ◌∙◌, [], ap, sym, subst, None, arith, add-one}
use Rattle.std.specs.Option.{option_copied}
use Rattle.tau_trace.specs.Run.{Run, step_at}
use Rattle.tau_trace.proofs.Prefix.{prefix}
use Rattle.tau_states.specs.Opening.{opening_states}
use Rattle.tau_states.specs.Table.{Holds as HasStates}
use Rattle.tau_report.proofs.Prefixes.{past_last, prefix_whole}
use Rattle.tau_cut.proofs.KeptLemmas.{holds_next}
use Rattle.tau_storm.proofs.claims.states_after.Goals as goal

pub loop-place-init : goal.loop-place-init
loop-place-init c = c.in_ok-states.ensures c.args.trace.now.run.opening c.requires

pub unreachable-requires : goal.unreachable-requires
unreachable-requires c =
    let T = c.args.trace.now.run in
    let none : None ≡ step_at T c.loop-place.place = sym (ap option_copied c.in-None.is) ∙ c.step.ensures in
    omega (arith, past_last T c.loop-place.place none, c.loop-place-test.true, c.len-place-end.ensures.len)

pub loop-place-preserved : goal.loop-place-preserved
loop-place-preserved c =
    let T = c.args.trace.now.run in
    rw add-one
    (holds_next T c.len-place-end.ensures.well_formed (opening_states c.args.starts.now) [] c.loop-place.place c.in-Some.step.now c.loop-place.states.records c.note.new.self.records (sym c.in-Some.ensures) c.in_ok-note-in-Some.ensures.ok c.loop-place.invariant)

pub returns-clause-states : goal.returns-clause-states
returns-clause-states c =
    let T = c.args.trace.now.run in
    let all : c.loop-place.place ≡ c.len-place-end.result = omega (arith, c.loop-place-test.false, c.loop-place.auto.place-end) in
    let P : Run → Type 0 = λ U. HasStates U (opening_states c.args.starts.now) c.loop-place.states.records in
    subst P (ap (prefix T) (all ∙ c.len-place-end.ensures.len) ∙ prefix_whole T) c.loop-place.invariant
