use Rattle.std.proofs.Common.{◌≡◌, ℕ, length, All, List, subst, sym, ap, ◌∙◌}
use Rattle.std.specs.Prelude.{Contains}
use Rattle.tau_points.specs.declared.point.Point.{Point}
use Rattle.tau_points.specs.Members.{SameMembers}
use Rattle.tau_trace.specs.Run.{Run, len}
use Rattle.tau_trace.specs.Points.{IsOpeningPoint}
use Rattle.tau_trace.specs.Known.{WellFormed}
use Rattle.tau_explain.specs.Links.Links.{IsMade, AreChainsFrom}
use Rattle.tau_cut.specs.Cuts.{IsCut}
use Rattle.tau_cut.specs.Inner.Checkpoints.{AreUnkept}
use Rattle.tau_cut.specs.Inner.Marking.{AreMarks}
use Rattle.tau_cut.specs.declared.cut.Marked.{Marked}
use Rattle.tau_cut.proofs.KeepLemmas.{points_made, no_opening}
use Rattle.tau_cut.proofs.CutLemmas.{is_cut}
use Rattle.tau_cut.proofs.marking.greatest.Goals as goal

pub shortest_chains-requires-clause-well_formed : goal.shortest_chains-requires-clause-well_formed
shortest_chains-requires-clause-well_formed c = subst (λ (R : Run). WellFormed R) (sym c.in_ok-index.ensures) c.in_ok-checkpoints.ensures.well_formed

pub shortest_chains-requires-clause-from : goal.shortest_chains-requires-clause-from
shortest_chains-requires-clause-from c =
    let T = c.args.trace.now.run in
    let points = c.in_ok-checkpoints.checkpoints.points.items in
    let made : All (IsMade T) points = points_made T c.in_ok-checkpoints.checkpoints.places.items points c.in_ok-checkpoints.ensures.told in
    subst (λ (R : Run). All (IsMade R) c.deref-2.result.now) (sym c.in_ok-index.ensures) (subst (λ (l : List Point). All (IsMade T) l) (sym c.deref-2.ensures.value) made)

pub shortest_chains-requires-clause-to : goal.shortest_chains-requires-clause-to
shortest_chains-requires-clause-to c =
    let R = c.in_ok-index.index in
    subst (λ (l : List Point). All (λ q. ¬ IsOpeningPoint R q) l) (sym c.deref-3.ensures.value) (no_opening R c.in_ok-kept.kept (len R) c.in_ok-unkept.unkept.items c.in_ok-unkept.ensures)

pub marks_of-requires : goal.marks_of-requires
marks_of-requires c =
    let told = c.in_ok-checkpoints.ensures.told in
    c.in_ok-chains.ensures.count ∙ ap (λ (l : List Point). length l) c.deref-2.ensures.value ∙ told.count ∙ ap (λ (l : List ℕ). length l) (sym c.deref-4.ensures.value)

pub returns : goal.returns
returns c =
    let T = c.args.trace.now.run in
    let R = c.in_ok-index.index in
    let same : R ≡ T = c.in_ok-index.ensures in
    let places = c.in_ok-checkpoints.checkpoints.places.items in
    let points = c.in_ok-checkpoints.checkpoints.points.items in
    let kept = c.in_ok-kept.kept in
    let unkept = c.in_ok-unkept.unkept.items in
    let chains = c.in_ok-chains.chains.items in
    let marks = c.in_ok-marks.marks.items in
    let kept_is : SameMembers points kept = subst (λ (l : List Point). SameMembers l kept) c.deref.ensures.value c.in_ok-kept.ensures.members in
    let unkept_are : AreUnkept T kept (len T) unkept = subst (λ (r : Run). AreUnkept r kept (len r) unkept) same c.in_ok-unkept.ensures in
    let chains_are : AreChainsFrom T points (Contains unkept) chains = subst (λ (r : Run). AreChainsFrom r points (Contains unkept) chains) same (subst (λ (l : List Point). AreChainsFrom R l (Contains unkept) chains) c.deref-2.ensures.value (subst (λ (l : List Point). AreChainsFrom R c.deref-2.result.now (Contains l) chains) c.deref-3.ensures.value c.in_ok-chains.ensures)) in
    let marks_are : AreMarks places chains (length places) marks c.marks_of.new.chains.items = subst (λ (l : List ℕ). AreMarks l chains (length l) marks c.marks_of.new.chains.items) c.deref-4.ensures.value c.in_ok-marks.ensures in
    subst (λ (ms : List Marked). IsCut T ms) (sym c.from_vec.ensures) (is_cut T places points kept unkept c.in_ok-checkpoints.ensures.told kept_is unkept_are chains chains_are marks c.marks_of.new.chains.items marks_are)
