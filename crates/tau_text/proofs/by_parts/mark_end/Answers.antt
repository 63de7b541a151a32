use Rattle.std.proofs.Common.{◌≡◌, get_or, refl, rules}
use Rattle.tau_text.proofs.LineLemmas.{lines_up_to}
use Rattle.tau_text.proofs.by_parts.mark_end.Goals as goal

pub returns-then-eq-clause-lines : goal.returns-then-eq-clause-lines
returns-then-eq-clause-lines c =
    let at : get_or c.args.bytes.now c.loop-place.place 0 ≡ 10 = search rules in
    lines_up_to c.args.bytes.now _ c.loop-place.place refl (search rules) at
