use Rattle.std.proofs.Common.{◌<◌, length, arith, sym, ◌∙◌}
use Rattle.tau_sexpr.proofs.PlaceLemmas.{pair_unclosed, pair_read, pair_bad, meaning_text}
use Rattle.tau_sexpr.proofs.reader.read_pair.Goals as goal

pub returns-then-at-bytes-clause-err : goal.returns-then-at-bytes-clause-err
returns-then-at-bytes-clause-err c = pair_unclosed c.args.bytes.now c.args.at c.if-at-bytes.true

pub returns-in-Some-clause-ok : goal.returns-in-Some-clause-ok
returns-in-Some-clause-ok c =
    let lt : c.args.at < length c.args.bytes.now = omega arith in
    let means = sym c.meaning.ensures ∙ c.in-Some.is in
    (lt, meaning_text _ _ means, pair_read c.args.bytes.now c.args.at c.in-Some.byte lt means)

pub returns-in-None-clause-err : goal.returns-in-None-clause-err
returns-in-None-clause-err c = pair_bad c.args.bytes.now c.args.at (omega arith) (sym c.meaning.ensures ∙ c.in-None.is)
