use Rattle.std.proofs.Common.{◌≡◌, OnOk, ℕ, List, subst}
use Rattle.tau_svg.specs.Markup.Lines.{with_quote, with_attribute}
use Rattle.tau_svg.specs.Shapes.Shapes.{moved_by}
use Rattle.tau_svg.proofs.shapes.legend.put_move.Goals as goal

pub returns : goal.returns
returns c =
    let e = c.in_ok-plain.ensures in
    let f = c.in_ok-plain-2.ensures in
    let g = c.in_ok-number.ensures in
    let h = c.in_ok-name.ensures in
    let is : with_quote c.plain-2.new.out.items ≡ with_attribute c.args.out.now.items (moved_by c.args.y) = cc in
    subst (λ (x : List ℕ). OnOk c.quote.result (c.quote.new.out.items ≡ x)) is c.quote.ensures
