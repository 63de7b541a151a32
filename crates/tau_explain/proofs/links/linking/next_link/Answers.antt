use Rattle.std.proofs.Common.{subst, Option, ℕ}
use Rattle.std.specs.HashMap.{get}
use Rattle.tau_points.specs.declared.point.Point.{Point}
use Rattle.tau_past.specs.Tables.{same_point}
use Rattle.tau_explain.specs.Links.Inner.Linking.{IsLeastLink, LinksAtDistance}
use Rattle.tau_explain.proofs.LinkLemmas.{least_of_both, no_link, goes_on_to}
use Rattle.tau_explain.proofs.links.linking.next_link.Goals as goal

pub unreachable-requires : goal.unreachable-requires
unreachable-requires c =
    let l = c.args.levels.now in
    let p = c.args.point.now in
    let far = get same_point l.far in
    no_link l.index.now l.marks.now far l.nearest.items (get same_point l.checkpoints.now) c.requires.levels p c.args.distance c.requires.from
    (subst (λ (o : Option (Point × ℕ)). IsLeastLink (LinksAtDistance l.index.now l.marks.now l.nearest.items far p c.args.distance) o) c.in-None.is
    (least_of_both l.index.now l.marks.now l.nearest.items far p c.args.distance c.taking_link.result c.closing_link.result c.lesser.result c.taking_link.ensures c.closing_link.ensures c.lesser.ensures.either c.lesser.ensures.first c.lesser.ensures.second))

pub returns : goal.returns
returns c =
    let l = c.args.levels.now in
    let p = c.args.point.now in
    let far = get same_point l.far in
    goes_on_to l.index.now l.marks.now far l.nearest.items (get same_point l.checkpoints.now) c.requires.levels p c.args.distance c.requires.from (c.in-Some.point, c.in-Some.place)
    (subst (λ (o : Option (Point × ℕ)). IsLeastLink (LinksAtDistance l.index.now l.marks.now l.nearest.items far p c.args.distance) o) c.in-Some.is
    (least_of_both l.index.now l.marks.now l.nearest.items far p c.args.distance c.taking_link.result c.closing_link.result c.lesser.result c.taking_link.ensures c.closing_link.ensures c.lesser.ensures.either c.lesser.ensures.first c.lesser.ensures.second))
