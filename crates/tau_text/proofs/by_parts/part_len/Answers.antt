use Rattle.std.proofs.Common.{◌≡◌, ◌<◌, get_or, take, drop, rules}
use Rattle.tau_text.proofs.LineLemmas.{lines_in_front, lines_past_front}
use Rattle.tau_text.proofs.by_parts.part_len.Goals as goal

pub returns-in-Some-clause-lines : goal.returns-in-Some-clause-lines
returns-in-Some-clause-lines c less =
    let at : get_or (take 65536 c.args.bytes.now) c.in-Some.place 0 ≡ 10 = search rules in
    let inside : c.in-Some.place < 65536 = search rules in
    lines_in_front c.args.bytes.now 65536 c.in-Some.place inside (search rules) at

pub returns-in-Some-position-clause-lines : goal.returns-in-Some-position-clause-lines
returns-in-Some-position-clause-lines c less =
    let at : get_or (drop 65536 c.args.bytes.now) c.in-Some-position.place 0 ≡ 10 = search rules in
    lines_past_front c.args.bytes.now 65536 c.in-Some-position.place (search rules) at
