use Rattle.std.proofs.Common.{◌≡◌, OnOk, List, sym, ap, ◌∙◌, subst, arith}
use Rattle.tau_svg.specs.Markup.Lines.{Piece, with_pieces}
use Rattle.tau_svg.specs.Shapes.Shapes.{beside}
use Rattle.tau_layout.specs.Paths.Paths.{offset, drawn_path, receipt_path}
use Rattle.tau_layout.proofs.PathLemmas.{beside_most}
use Rattle.tau_layout.proofs.paths.paths.put_receipt.Goals as goal

pub put_drawn-requires-clause-right : goal.put_drawn-requires-clause-right
put_drawn-requires-clause-right c =
    let most = beside_most c.in-Drawn.sender.right c.args.middle.x c.offset-offset.result c.requires.near.right c.offset-offset.ensures.most in
    omega (arith, most, c.beside-down.ensures)

pub returns-in-Drawn : goal.returns-in-Drawn
returns-in-Drawn c =
    let s = c.args.step.now in
    let q = c.in-Drawn.sender in
    let p = c.args.middle in
    let down : c.beside-down.result ≡ beside q.right p.x (offset c.args.wide s c.args.message) = c.beside-down.ensures ∙ ap (beside q.right p.x) c.offset-offset.ensures.offset in
    let path : drawn_path q s c.beside-down.result p ≡ receipt_path c.args.wide c.args.top s c.args.message c.args.source p = ap (λ d. drawn_path q s d p) down ∙ sym (ap (λ z. receipt_path c.args.wide c.args.top s c.args.message z p) c.in-Drawn.is) in
    subst (λ (ps : List Piece). OnOk c.put_drawn.result (c.put_drawn.new.out.items ≡ with_pieces c.args.out.now.items ps)) path c.put_drawn.ensures
