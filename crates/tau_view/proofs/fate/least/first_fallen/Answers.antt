use Rattle.std.proofs.Common.{◌≡◌, length, get_or, sym, ◌∙◌, subst, rules, arith}
use Rattle.std.specs.Prelude.{Contains}
use Rattle.std.proofs.lemmas.List.Elements.{Contains-get_or}
use Rattle.tau_history.specs.declared.fate.Fate.TheVariants.{Fallen}
use Rattle.tau_history.specs.contracts.fate.Fate.{the_type}
use Rattle.tau_points.specs.declared.point.Point.{Point}
use Rattle.tau_view.specs.Held.{fate_in}
use Rattle.tau_view.specs.Fate.Inner.Found.{FallenAmong}
use Rattle.tau_view.specs.Fate.Least.{IsLeast}
use Rattle.tau_view.proofs.Firsts.{first_least}
use denote.Enum.Bare.{same_true}
use Rattle.tau_view.proofs.fate.least.first_fallen.Goals as goal

pub returns-then-eq : goal.returns-then-eq
returns-then-eq g c =
    let hs = (g.V.View.held c.args.view.now).history in
    let xs = c.points-point-items.result.now in
    let k = c.loop-point.point-index in
    let d : Point = record { who = 0; interval = 0; incarnation = 0 } in
    let fell : fate_in hs (get_or xs k d) ≡ Fallen = sym c.fate_of.ensures ∙ same_true the_type (search rules) _ _ (sym c.if-eq.ensures) in
    subst (λ ps. IsLeast (FallenAmong hs ps) (get_or xs k d)) c.points-point-items.ensures.points
    (record {
      holds = record { among = Contains-get_or xs k d (omega arith); is_fallen = fell };
      least = λ q a. first_least (λ r. fate_in hs r ≡ Fallen) d xs k c.points-point-items.ensures.ascending (omega arith) c.loop-point.invariant q a.among a.is_fallen;
    })
