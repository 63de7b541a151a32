use Rattle.std.proofs.Common.{subst, sym, ◌↔◌, List, Bool}
use Rattle.std.specs.Prelude.{Contains}
use Rattle.tau_points.specs.declared.point.Point.{Point}
use Rattle.tau_past.specs.Pasts.{FellIn}
use Rattle.tau_explain.specs.Links.Inner.Linking.{IsFirstChain}
use Rattle.tau_explain.specs.Decisions.{IsWhy}
use Rattle.tau_explain.specs.Inner.Hearing.{IsMarked}
use Rattle.tau_explain.proofs.WhyLemmas.{drop_found}
use Rattle.tau_explain.proofs.asking.why_dropped.Goals as goal

pub returns : goal.returns
returns c =
    let T = c.args.trace.now.run in
    let R = c.in_ok-index.index in
    let m = c.in_ok-marks.marks.items in
    let found = c.in_ok-first_chain.field-0 in
    let causes = c.in_ok-causes.causes in
    let from = c.in_ok-from.from in
    let causes_are = subst (λ (l : List Bool). (q : Point) → Contains causes q ↔ FellIn R (IsMarked l) q) c.deref.ensures.value c.in_ok-causes.ensures in
    let chain = subst (λ (l : List Bool). IsFirstChain R l (Contains from) (Contains causes) found) c.deref-2.ensures.value (subst (λ (l : List Point). IsFirstChain R c.deref-2.result.now (Contains from) (Contains l) found) c.points.ensures.points c.in_ok-first_chain.ensures) in
    subst (IsWhy T c.args.place) (sym c.answer.ensures) (drop_found T R c.requires.0 c.args.message c.args.place c.in_ok-index.ensures c.requires.1 m c.in_ok-marks.ensures.marked from causes c.in_ok-from.ensures.members causes_are found chain)
