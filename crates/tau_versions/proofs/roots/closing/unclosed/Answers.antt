use Rattle.std.proofs.Common.{◌≡◌, Bool, filter, ap, ◌∙◌, rules}
use Rattle.std.proofs.lemmas.Fn.{filter_same}
use Rattle.tau_points.specs.declared.point.Point.{Point}
use Rattle.tau_versions.specs.Roots.Closing.{is_unclosed}
use Rattle.tau_versions.proofs.roots.closing.unclosed.Goals as goal

pub returns : goal.returns
returns g c =
    let test : Point → Bool = is_unclosed c.args.logs.now (g.V.HeardVersions.numbers c.args.heard.now) in
    let same : c.retain.new.self.items ≡ filter test c.in_ok-left.left.items = filter_same _ _ _ (λ x b f k. search rules) _ _ c.retain.ensures.filtered in
    same ∙ ap (filter test) c.in_ok-left.ensures.items
