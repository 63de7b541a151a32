use Rattle.std.proofs.Common.{◌≡◌, false, length, get_or, sym, ap, ◌∙◌, subst, rules, arith}
use Rattle.std.specs.Prelude.{Contains, IsFalse}
use Rattle.std.proofs.lemmas.List.Elements.{Contains-get_or}
use Rattle.tau_points.specs.declared.point.Point.{Point}
use Rattle.tau_view.specs.Held.{fate_in, is_firm}
use Rattle.tau_view.specs.Fate.Inner.Found.{NotFirmAmong}
use Rattle.tau_view.specs.Fate.Least.{IsLeast}
use Rattle.tau_view.proofs.Firsts.{first_least, not_firm}
use Rattle.tau_view.proofs.fate.least.first_not_firm.Goals as goal

pub returns-in_default : goal.returns-in_default
returns-in_default g c =
    let hs = (g.V.View.held c.args.view.now).history in
    let xs = c.points-point-items.result.now in
    let k = c.loop-point.point-index in
    let d : Point = record { who = 0; interval = 0; incarnation = 0 } in
    let bound : IsFalse (is_firm (fate_in hs (get_or xs k d))) = subst (λ f. IsFalse (is_firm f)) c.fate_of.ensures (not_firm c.fate_of.result c.in_default.not-Stable c.in_default.not-Closed) in
    subst (λ ps. IsLeast (NotFirmAmong hs ps) (get_or xs k d)) c.points-point-items.ensures.points
    (record {
      holds = record { among = Contains-get_or xs k d (omega arith); not_firm = bound };
      least = λ q a. first_least (λ r. IsFalse (is_firm (fate_in hs r))) d xs k c.points-point-items.ensures.ascending (omega arith) c.loop-point.invariant q a.among a.not_firm;
    })
