use Rattle.std.proofs.Common.{◌≡◌, ◌<◌, ◌∙◌, ap, sym, subst, Some, None, List, arith, add-one}
use Rattle.std.specs.Option.{option_copied}
use Rattle.std.proofs.lemmas.Option.{slice_get-get_or}
use Rattle.tau_trace.specs.Run.{Run, len, step_at}
use Rattle.tau_trace.specs.Numbering.{born}
use Rattle.tau_states.specs.declared.state_record.StateRecord.{StateRecord}
use Rattle.tau_trace.proofs.Prefix.{prefix}
use Rattle.tau_states.specs.Opening.{opening_states}
use Rattle.tau_states.specs.Table.{Holds}
use Rattle.tau_report.proofs.Prefixes.{past_last, prefix_whole}
use Rattle.tau_cut.specs.Inner.Keeping.{IsKeptFirst, AreKept}
use Rattle.tau_cut.proofs.KeptLemmas.{kept_start, kept_next, holds_next}
use Rattle.tau_cut.proofs.states.states_kept.Goals as goal

pub loop-place-init : goal.loop-place-init
loop-place-init c =
    let T = c.args.trace.now.run in
    let values = opening_states c.args.starts.now in
    let rs = c.in_ok-states.states.records in
    let h = c.in_ok-states.ensures T.opening c.requires.starts in
    let first = subst (λ (l : List StateRecord). IsKeptFirst l (born T (len T)) c.in_ok-kept.kept.items) c.records.ensures (subst (λ n. IsKeptFirst c.records.result.now n c.in_ok-kept.kept.items) c.born.ensures c.in_ok-kept.ensures) in
    record { holds = h; kept = kept_start T c.len-place-end.ensures.well_formed values c.args.marks.now rs c.in_ok-kept.kept.items h first }

pub unreachable-requires : goal.unreachable-requires
unreachable-requires c =
    let T = c.args.trace.now.run in
    let none : None ≡ step_at T c.loop-place.place = sym (ap option_copied c.in-None.is) ∙ c.step.ensures in
    omega (arith, past_last T c.loop-place.place none, c.loop-place-test.true, c.len-place-end.ensures.len)

pub loop-place-preserved : goal.loop-place-preserved
loop-place-preserved c =
    let T = c.args.trace.now.run in
    let w = c.len-place-end.ensures.well_formed in
    let values = opening_states c.args.starts.now in
    let marks = c.args.marks.now in
    let k = c.loop-place.place in
    let s = c.in-Some.step.now in
    let lt : k < len T = omega (arith, c.loop-place-test.true, c.len-place-end.ensures.len) in
    let stands : step_at T k ≡ Some s = sym c.in-Some.ensures in
    let h = holds_next T w values marks k s c.loop-place.states.records c.note.new.states.records stands c.in_ok-note-in-Some.ensures.states c.loop-place.invariant.holds in
    record {
      holds = rw add-one h;
      kept = kept_next T w values marks k _ s c.note.new.states.records c.loop-place.kept.items c.note.new.kept.items lt stands (slice_get-get_or marks k _ (omega (arith, lt, c.requires.marks))) h c.in_ok-note-in-Some.ensures.kept c.loop-place.invariant.kept;
    }

pub returns-clause-states : goal.returns-clause-states
returns-clause-states c =
    let T = c.args.trace.now.run in
    let all : c.loop-place.place ≡ len T = omega (arith, c.loop-place-test.false, c.loop-place.auto.place-end, c.len-place-end.ensures.len) in
    let Q : Run → Type 0 = λ U. Holds U (opening_states c.args.starts.now) c.loop-place.states.records in
    subst Q (ap (prefix T) all ∙ prefix_whole T) c.loop-place.invariant.holds

pub returns-clause-kept : goal.returns-clause-kept
returns-clause-kept c =
    let T = c.args.trace.now.run in
    let all : c.loop-place.place ≡ len T = omega (arith, c.loop-place-test.false, c.loop-place.auto.place-end, c.len-place-end.ensures.len) in
    subst (λ n. AreKept T (opening_states c.args.starts.now) c.args.marks.now n c.loop-place.kept.items) all c.loop-place.invariant.kept
