use Rattle.std.proofs.Common.{◌≡◌, OnOk, List, sym, subst}
use Rattle.tau_svg.specs.Markup.Lines.{Piece, with_pieces}
use Rattle.tau_layout.proofs.PathLemmas.{line_end_other}
use Rattle.tau_layout.proofs.paths.paths.put_end.Goals as goal

pub returns-in_default : goal.returns-in_default
returns-in_default c =
    subst (λ (ps : List Piece). OnOk c.put_turn.result (c.put_turn.new.out.items ≡ with_pieces c.args.out.now.items ps))
    (sym (line_end_other c.args.step.now c.args.right c.args.down c.args.middle c.in_default.not-Lose)) c.put_turn.ensures
