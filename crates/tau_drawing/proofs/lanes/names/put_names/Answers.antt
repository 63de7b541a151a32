use Rattle.std.proofs.Common.{◌≡◌, ◌+◌, ◌/◌, ◌∙◌, ℕ, ap, subst, arith}
use Rattle.tau_svg.specs.declared.shapes.window.Window.{Window}
use Rattle.tau_svg.specs.Shapes.Windows.{count}
use Rattle.tau_svg.specs.Shapes.Each.{EachPlace, Writes}
use Rattle.tau_svg.proofs.Writing.{places_first, places_next}
use Rattle.tau_drawing.specs.Lanes.NameLines.{IsNamesLine}
use Rattle.tau_drawing.proofs.lanes.names.put_names.Goals as goal

pub loop-number-init : goal.loop-number-init
loop-number-init c = places_first (IsNamesLine c.args.trace.now.run c.args.layout.now) 1 c.args.out.now.items

pub loop-number-preserved : goal.loop-number-preserved
loop-number-preserved c =
    places_next (IsNamesLine c.args.trace.now.run c.args.layout.now) 1 c.loop-number.number c.args.out.now.items c.loop-number.out.items c.put_line.new.out.items c.loop-number.invariant c.in_ok-put_line.ensures

pub returns : goal.returns
returns c =
    let P = IsNamesLine c.args.trace.now.run c.args.layout.now in
    let end : c.loop-number.number ≡ c.count-lines.result / 50 + 1 = omega (arith, c.loop-number-test.false, c.loop-number.auto.number-end) in
    subst (λ (k : ℕ). Writes (EachPlace P 1 k) c.args.out.now.items c.loop-number.out.items)
    (end ∙ ap (λ n. n / 50 + 1) c.count-lines.ensures ∙ ap (λ (v : Window). count v / 50 + 1) c.window.ensures.window) c.loop-number.invariant
