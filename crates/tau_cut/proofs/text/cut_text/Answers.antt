use Rattle.tau_cut.proofs.LineLemmas.{whole_text}
use Rattle.tau_cut.proofs.text.cut_text.Goals as goal

pub put_states-requires : goal.put_states-requires
put_states-requires c = c.in_ok-end.ensures.kept.count

pub returns : goal.returns
returns c =
    let P = c.args.program.now in
    let T = c.args.trace.now.run in
    let cut = c.in_ok-cut.cut in
    whole_text P T c.opening.result.now cut c.in_ok-text.text.items c.put_states.new.out.items c.opening.ensures.value c.in_ok-cut.ensures c.in_ok-text.ensures (c.in_ok-put_states.ensures P _ c.in_ok-end.ensures.kept)
