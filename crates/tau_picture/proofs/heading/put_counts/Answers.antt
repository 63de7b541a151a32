use Rattle.std.proofs.Common.{◌∙◌, ap}
use Rattle.std.specs.Prelude.{codes}
use Rattle.std.proofs.lemmas.Result.{on_ok_weaker}
use Rattle.tau_svg.specs.Markup.Lines.{with_pieces, with_close}
use Rattle.tau_picture.specs.Headings.{counts_pieces, left_out_pieces}
use Rattle.tau_picture.proofs.heading.put_counts.Goals as goal

pub returns : goal.returns
returns c =
    let n = c.args.counts in
    on_ok_weaker c.close.result
    (λ w. w ∙ ap (λ x. with_close x (codes "text"))
    (c.in_ok-put_left_out.ensures ∙ ap (λ x. with_pieces x (left_out_pieces c.args.steps))
    (c.in_ok-put_numbers.ensures ∙ ap (λ x. with_pieces x (counts_pieces n.checkpoints c.args.kept n.holds n.drops n.falls n.losses)) c.in_ok-text_at.ensures)))
    c.close.ensures
