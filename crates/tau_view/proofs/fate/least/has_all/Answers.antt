use Rattle.std.proofs.Common.{◌≡◌, refl, ◌+◌, ◌<◌, ℕ, List, ⊎_elim, length, take, get_or, subst, sym, arith}
use Rattle.std.specs.Prelude.{Contains}
use Rattle.std.proofs.lemmas.List.{take_more, take_all}
use Rattle.std.proofs.lemmas.List.Elements.{Contains-push_cases}
use Rattle.tau_points.specs.declared.point.Point.{Point}
use Rattle.tau_points.specs.Members.{HasAll}
use Rattle.tau_view.proofs.Sets.{point_in-Contains}
use Rattle.tau_view.proofs.fate.least.has_all.Goals as goal

-- one point more is found
one_more : (points others : List Point) (k : ℕ) (d : Point) → k < length others → Contains points (get_or others k d) → HasAll points (take k others) → HasAll points (take (k + 1) others)
one_more points others k d within here has q c =
    ⊎_elim (λ h. has q h) (λ (e : get_or others k d ≡ q). subst (Contains points) e here)
    (Contains-push_cases (take k others) (get_or others k d) q (subst (λ (ys : List Point). Contains ys q) (take_more others k d within) c))

pub loop-point-preserved : goal.loop-point-preserved
loop-point-preserved c =
    let d : Point = record { who = 0; interval = 0; incarnation = 0 } in
    one_more c.args.points.now c.points-point-items.result.now c.loop-point.point-index d (omega arith) (c.if-not-has.ensures.0 refl) c.loop-point.invariant

pub returns : goal.returns
returns c = λ q h.
    let all = subst (HasAll c.args.points.now) (take_all c.loop-point.point-index c.points-point-items.result.now (omega arith)) c.loop-point.invariant in
    subst (λ (ys : List Point). HasAll c.args.points.now ys) c.points-point-items.ensures.points all q (point_in-Contains c.args.others.now q h)
