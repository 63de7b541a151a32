use Rattle.std.proofs.Common.{◌≡◌, Bool, filter, sym, ap, ◌∙◌, arith}
use Rattle.std.proofs.lemmas.Result.{IfOk-weaker}
use Rattle.tau_points.specs.declared.point.Point.{Point}
use Rattle.tau_versions.specs.Roots.Closing.{is_unclosed}
use Rattle.tau_versions.specs.Roots.Listed.{shared}
use Rattle.tau_versions.proofs.Filters.{filter_all, filter_none}
use Rattle.tau_versions.proofs.roots.roots.list_unclosed.Goals as goal

pub returns-then-count-points : goal.returns-then-count-points
returns-then-count-points g c =
    let test : Point → Bool = is_unclosed c.args.logs.now (g.V.HeardVersions.numbers c.args.heard.now) in
    let points = c.points_of-points.result.now in
    let is = c.points_of-points.ensures in
    let all : filter test points ≡ points = filter_all test points (omega (arith, c.count_unclosed-count.ensures, c.if-count-points.true)) in
    let same : shared c.args.many.now ≡ filter test (shared c.args.many.now) = sym (ap (filter test) (sym is) ∙ all ∙ is) in
    IfOk-weaker c.share_list.result (λ list. shared list ≡ shared c.args.many.now) (λ list. shared list ≡ filter test (shared c.args.many.now)) (λ list e. e ∙ same) c.share_list.ensures

pub returns-then-count-eq0 : goal.returns-then-count-eq0
returns-then-count-eq0 g c =
    let test : Point → Bool = is_unclosed c.args.logs.now (g.V.HeardVersions.numbers c.args.heard.now) in
    let points = c.points_of-points.result.now in
    sym (ap (filter test) (sym c.points_of-points.ensures) ∙ filter_none test points (omega (arith, c.count_unclosed-count.ensures, c.if-count-eq0.true)))
