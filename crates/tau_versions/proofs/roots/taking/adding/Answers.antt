use Rattle.std.proofs.Common.{◌≡◌, ◌-◌, ◌++◌, Bool, List, filter, length, ap, ap₂, ◌∙◌, arith}
use Rattle.tau_points.specs.declared.point.Point.{Point}
use Rattle.tau_versions.specs.Logs.Reading.{takes_told}
use Rattle.tau_versions.specs.Logs.Takes.{taken}
use Rattle.tau_versions.specs.Roots.Closing.{is_unclosed}
use Rattle.tau_versions.proofs.Ranges.{added_again}
use Rattle.tau_versions.proofs.roots.taking.adding.Goals as goal

pub returns-clause-adding : goal.returns-clause-adding
returns-clause-adding g c =
    let test : Point → Bool = is_unclosed c.args.logs.now (g.V.HeardVersions.numbers c.args.heard.now) in
    let before : List Point = taken c.args.log.now.takes c.args.version in
    let told : c.taken-before.result.now ≡ before = c.taken-before.ensures ∙ ap (takes_told c.args.log.now) (c.saturating_sub.ensures ∙ ap (λ k. k - 1) c.len.ensures) ∙ c.requires.last in
    let grown : c.extend_from_slice.new.self.items ≡ filter test before ++ c.args.fresh.items =
    c.in_ok-extend_from_slice.ensures.items ∙ ap₂ (λ xs ys. xs ++ ys) (c.in_ok-points.ensures ∙ ap (filter test) told) c.deref.ensures.value in
    added_again test c.args.log.now c.args.version c.in_ok-added.added.version c.args.fresh.items c.in_ok-added.added.points.items (c.in_ok-added.ensures.points ∙ grown)
    (omega (arith, c.in_ok-added.ensures.range.0, c.in-Ok.ensures, c.takes_len-end.ensures)) (omega (arith, c.in_ok-added.ensures.range.1, c.takes_len-end.ensures, ap length c.in_ok-added.ensures.points)) c.in_ok-added.ensures.tells
