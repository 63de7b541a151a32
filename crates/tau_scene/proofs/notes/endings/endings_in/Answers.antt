use Rattle.std.proofs.Common.{◌≡◌, ◌∙◌, List, Option, length, ap, sym, subst}
use Rattle.std.proofs.lemmas.Result.{IfOk-weaker}
use Rattle.std.proofs.lemmas.List.{length-map}
use Rattle.tau_trace.specs.declared.opening.Opening.{Opening}
use Rattle.tau_trace.specs.Run.{len}
use Rattle.tau_states.specs.Opening.{opening_states}
use Rattle.tau_layout.specs.declared.lanes.Lane.{Lane}
use Rattle.tau_layout.specs.Inner.Laying.{lane_of, lanes_of}
use Rattle.tau_scene.specs.declared.notes.keeping.Kept.{Kept}
use Rattle.tau_scene.specs.Notes.Inner.Keeping.{AreKept, AreEndingsOf}
use Rattle.tau_scene.proofs.KeptLemmas.{endings_told}
use Rattle.tau_scene.proofs.notes.endings.endings_in.Goals as goal

pub returns : goal.returns
returns c =
    let P = c.args.program.now in
    let T = c.args.trace.now.run in
    let marks = c.in_ok-marks.marks.items in
    let kept = c.in_ok-kept.kept.items in
    let lanes = c.args.layout.now.lanes in
    let count : length c.columns.result.now ≡ length lanes = sym (length-map c.columns.result.now lane_of) ∙ ap (λ (l : List Lane). length l) c.columns.ensures.lanes in
    let are : AreKept T (opening_states P.starts) lanes marks (len T) kept = subst (λ m. AreKept T (opening_states P.starts) lanes m (len T) kept) c.deref.ensures.value c.in_ok-kept.ensures in
    IfOk-weaker c.endings_of.result _ _ (λ v told. endings_told P T c.args.cut.now marks c.in_ok-marks.ensures.marked c.requires.starts lanes kept v.items are
    (subst (λ n. AreEndingsOf T.opening.names P.starts lanes kept n v.items) count
    (subst (λ (l : List Lane). AreEndingsOf T.opening.names P.starts l kept (length c.columns.result.now) v.items) c.columns.ensures.lanes
    (subst (λ (k : List (Option Kept)). AreEndingsOf T.opening.names P.starts (lanes_of c.columns.result.now) k (length c.columns.result.now) v.items) c.deref-2.ensures.value
    (subst (λ (o : Opening). AreEndingsOf o.names P.starts (lanes_of c.columns.result.now) c.deref-2.result.now (length c.columns.result.now) v.items) c.opening.ensures.value told))))) c.endings_of.ensures
