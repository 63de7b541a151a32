use Rattle.std.proofs.Common.{sym, ◌∙◌, ◌≡◌, subst, Option, Some}
use Rattle.std.specs.HashMap.{get}
use Rattle.tau_points.specs.declared.point.Point.{Point}
use Rattle.tau_explain.specs.Chains.Inner.Distances.{IsNearest}
use Rattle.tau_past.specs.Tables.{same_point}
use Rattle.tau_explain.proofs.NearLemmas.{one_reached}
use Rattle.tau_explain.proofs.links.nearest.with_distance.Goals as goal

pub returns : goal.returns
returns c =
    let far = get same_point c.args.far.now in
    let p = c.in_ok-point.point in
    subst (λ (o : Option Point). IsNearest (λ q. o ≡ Some q) far p c.in_ok-distance.distance) (sym (c.in_ok-point.was)) (one_reached far p c.in_ok-distance.distance (sym (c.copied.ensures ∙ c.get.ensures.value) ∙ c.in_ok-distance.was))
