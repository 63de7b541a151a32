use Rattle.std.proofs.Common.{subst, sym, ◌↔◌, ◌⊎◌, List, Bool}
use Rattle.std.specs.Prelude.{Contains}
use Rattle.tau_points.specs.declared.point.Point.{Point}
use Rattle.tau_past.specs.Pasts.{FellIn, StabilizedIn}
use Rattle.tau_explain.specs.Links.Inner.Linking.{IsFirstChain}
use Rattle.tau_explain.specs.Decisions.{IsWhy}
use Rattle.tau_explain.specs.Inner.Hearing.{IsMarked}
use Rattle.tau_explain.specs.Inner.Causes.{IsCandidate, IsUnfirm, IsSettled}
use Rattle.tau_explain.proofs.WhyLemmas.{held_found}
use Rattle.tau_explain.proofs.asking.why_held.Goals as goal

pub returns : goal.returns
returns c =
    let T = c.args.trace.now.run in
    let R = c.in_ok-index.index in
    let m = c.in_ok-marks.marks.items in
    let found = c.in_ok-first_chain.field-0 in
    let fallen = c.in_ok-fallen.fallen in
    let stable = c.in_ok-stable.stable in
    let own = c.own_point-own.result in
    let causes = c.in_ok-causes.causes.items in
    let fallen_is = subst (λ (l : List Bool). (q : Point) → Contains fallen q ↔ FellIn R (IsMarked l) q) c.deref.ensures.value c.in_ok-fallen.ensures in
    let stable_is = subst (λ (l : List Bool). (q : Point) → Contains stable q ↔ StabilizedIn R (IsMarked l) q) c.deref-2.ensures.value c.in_ok-stable.ensures in
    let unfirm = subst (λ (l : List Bool). (q : Point) → Contains causes q → IsCandidate R l own q × IsUnfirm fallen stable q) c.deref-3.ensures.value c.in_ok-causes.ensures.unfirm in
    let others = subst (λ (l : List Bool). (q : Point) → IsCandidate R l own q → Contains causes q ⊎ IsSettled fallen stable q) c.deref-3.ensures.value c.in_ok-causes.ensures.others in
    let chain = subst (λ (l : List Bool). IsFirstChain R l (Contains c.in_ok-from.from) (Contains causes) found) c.deref-4.ensures.value (subst (λ (l : List Point). IsFirstChain R c.deref-4.result.now (Contains c.in_ok-from.from) (Contains l) found) c.deref-5.ensures.value c.in_ok-first_chain.ensures) in
    subst (IsWhy T c.args.place) (sym c.answer.ensures) (held_found T R c.requires.0 c.args.place c.in_ok-index.ensures c.requires.1 m c.in_ok-marks.ensures.marked own c.own_point-own.ensures c.in_ok-from.from causes fallen stable c.in_ok-from.ensures.members fallen_is stable_is unfirm others found chain)
