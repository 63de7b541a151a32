use Rattle.std.proofs.Common.{◌≡◌, OnOk, List, ℕ, subst}
use Rattle.tau_svg.specs.Markup.Lines.{with_quote, with_attribute}
use Rattle.tau_drawing.specs.Lanes.LaneLines.{turned}
use Rattle.tau_drawing.proofs.lanes.lanes.put_turn.Goals as goal

pub returns : goal.returns
returns c =
    let a = c.in_ok-name.ensures in
    let b = c.in_ok-plain.ensures in
    let d = c.in_ok-number.ensures in
    let e = c.in_ok-plain-2.ensures in
    let f = c.in_ok-number-2.ensures in
    let g = c.in_ok-plain-3.ensures in
    let is : with_quote c.plain-3.new.out.items ≡ with_attribute c.args.out.now.items (turned c.args.x c.args.y) = cc in
    subst (λ (x : List ℕ). OnOk c.quote.result (c.quote.new.out.items ≡ x)) is c.quote.ensures
