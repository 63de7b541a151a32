use Rattle.std.proofs.Common.{◌≡◌, ◌∙◌, length, subst, sym, ap, arith, List}
use Rattle.tau_trace.specs.Run.{len}
use Rattle.tau_states.specs.Opening.{opening_states}
use Rattle.tau_scene.specs.Notes.Inner.Keeping.{AreKept}
use Rattle.tau_layout.specs.declared.lanes.Lane.{Lane}
use Rattle.tau_layout.specs.Inner.Laying.{lane_of}
use Rattle.std.proofs.lemmas.List.{length-map}
use Rattle.tau_scene.proofs.KeptLemmas.{kept_first}
use Rattle.tau_scene.proofs.notes.keeping.kept_of_lanes.Goals as goal

pub loop-place-init : goal.loop-place-init
loop-place-init c =
    let T = c.args.trace.now.run in
    record {
      holds = c.in_ok-states.ensures T.opening c.requires.starts;
      kept = kept_first T (opening_states c.args.starts.now) c.args.layout.now.lanes c.args.marks.now c.in_ok-kept.kept.items
          (c.in_ok-kept.ensures.count ∙ sym (length-map c.columns.result.now lane_of) ∙ ap (λ (l : List Lane). length l) c.columns.ensures.lanes) c.in_ok-kept.ensures.none;
    }

pub loop-place-preserved : goal.loop-place-preserved
loop-place-preserved c =
    let h = c.in_ok-note.ensures.states (opening_states c.args.starts.now) c.loop-place.invariant.holds in
    record { holds = h; kept = c.in_ok-note.ensures.kept (opening_states c.args.starts.now) h c.loop-place.invariant.kept }

pub returns : goal.returns
returns c =
    let T = c.args.trace.now.run in
    let all : c.loop-place.place ≡ len T = omega (arith, c.loop-place-test.false, c.loop-place.auto.place-end, c.len-place-end.ensures.len) in
    subst (λ n. AreKept T (opening_states c.args.starts.now) c.args.layout.now.lanes c.args.marks.now n c.loop-place.kept.items) all c.loop-place.invariant.kept
