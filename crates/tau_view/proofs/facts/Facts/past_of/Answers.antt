use Rattle.std.proofs.Common.{◌↔◌, List}
use Rattle.std.specs.Prelude.{Contains}
use Rattle.std.proofs.lemmas.Result.{IfOk-weaker}
use Rattle.tau_points.specs.declared.point.Point.{Point}
use Rattle.tau_points.specs.Reach.{Reach}
use Rattle.tau_view.specs.Past.{Link, KnownPast}
use Rattle.tau_view.specs.Stored.{held, point_in}
use Rattle.tau_view.proofs.Links.{past_found}
use Rattle.tau_view.proofs.facts.Facts.past_of.Goals as goal

pub returns-clause-past : goal.returns-clause-past
returns-clause-past c =
    let v = held c.args.self.now in
    let from = c.args.from.now in
    IfOk-weaker c.search.result (λ found. (q : Point) → Contains found q ↔ Reach (Link v) (Contains from) q) (λ found. (q : Point) → Contains found q ↔ KnownPast v (point_in from) q)
    (λ found f. past_found v from found f) c.search.ensures.reached
