use Rattle.std.proofs.Common.{◌∙◌, ap}
use Rattle.std.specs.Prelude.{codes}
use Rattle.std.proofs.lemmas.Result.{on_ok_weaker}
use Rattle.tau_svg.specs.Markup.Lines.{plain, with_open, with_piece, with_close, with_attribute}
use Rattle.tau_svg.specs.Shapes.Shapes.{is_word}
use Rattle.tau_picture.proofs.chain.put_head.Goals as goal

pub returns : goal.returns
returns c =
    let colour = codes "@media (prefers-color-scheme:dark){#tau-to-why path{fill:#f06ac4}}" in
    on_ok_weaker c.close.result
    (λ w. w ∙ ap (λ x. with_close x (codes "style"))
    (c.in_ok-plain.ensures ∙ ap (λ x. with_piece x (plain colour))
    (c.in_ok-text.ensures ∙ ap with_open
    (c.in_ok-put_word.ensures ∙ ap (λ x. with_attribute x (is_word (codes "type") (codes "text/css"))) c.in_ok-begin.ensures))))
    c.close.ensures
