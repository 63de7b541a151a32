use Rattle.std.proofs.Common.{sym, refl, subst, List, Bool, Option, ℕ, None, Some}
use Rattle.std.specs.Prelude.{Contains}
use Rattle.std.specs.HashMap.{get}
use Rattle.tau_trace.specs.Run.{Run}
use Rattle.tau_points.specs.declared.point.Point.{Point}
use Rattle.tau_explain.specs.declared.chains.chained.Chained.{Chained}
use Rattle.tau_explain.specs.Chains.Inner.Distances.{IsNearest, IsNearestOf}
use Rattle.tau_past.specs.Tables.{same_point}
use Rattle.tau_explain.specs.Links.Inner.Linking.{IsFirstByMarks, GoesDown}
use Rattle.tau_explain.proofs.LinkLemmas.{first_by_marks, no_first}
use Rattle.tau_explain.proofs.SourceLemmas.{nexts_none}
use Rattle.tau_explain.proofs.links.routes.first_chain.Goals as goal

pub chain_from-requires-clause-nexts : goal.chain_from-requires-clause-nexts
chain_from-requires-clause-nexts c =
    let l = c.in_ok-levels.levels in
    nexts_none l.index.now l.marks.now (get same_point l.far) (get same_point c.new-nexts.result) (λ p. rw c.new-nexts.ensures.empty refl)

pub returns-in-Some : goal.returns-in-Some
returns-in-Some c =
    let T = c.args.index.now in
    let marks = c.args.marks.now in
    let levels = c.in_ok-levels.levels in
    let far = get same_point levels.far in
    let e = c.in_ok-levels.ensures in
    let x = c.in-Some.first in
    let n = c.in-Some.distance in
    let near : IsNearest (Contains c.args.from.now) far x n = subst (λ (l : List Point). IsNearestOf (Contains l) far (Some (x, n))) c.points.ensures.points (subst (λ (o : Option (Point × ℕ)). IsNearestOf (Contains c.points.result.now) far o) c.in-Some.is c.nearest_of.ensures) in
    let down : GoesDown T marks far x c.in_ok-items-in-Some.items.items = subst (λ (r : Run). GoesDown r marks far x c.in_ok-items-in-Some.items.items) e.index (subst (λ (m : List Bool). GoesDown levels.index.now m far x c.in_ok-items-in-Some.items.items) e.marks c.in_ok-items-in-Some.ensures.chain) in
    subst (λ (l : List Chained). IsFirstByMarks T marks (Contains c.args.from.now) (Contains c.args.to.now) l) (sym c.from_vec.ensures)
    (first_by_marks T marks far (Contains c.args.from.now) (Contains c.args.to.now) x n c.in_ok-items-in-Some.items.items e.far near down)

pub returns : goal.returns
returns c =
    let far = get same_point c.in_ok-levels.levels.far in
    no_first c.args.index.now c.args.marks.now far (Contains c.args.from.now) (Contains c.args.to.now) c.in_ok-levels.ensures.far
    (subst (λ (l : List Point). IsNearestOf (Contains l) far None) c.points.ensures.points (subst (λ (o : Option (Point × ℕ)). IsNearestOf (Contains c.points.result.now) far o) c.in-None.is c.nearest_of.ensures))
