use Rattle.std.proofs.Common.{◌≡◌, ◌+◌, ◌<◌, [], ◌∷◌, ◌++◌, length, drop, arith, ap, ◌∙◌}
use Rattle.tau_sexpr.specs.Inner.Reader.{in_text, run}
use Rattle.tau_sexpr.proofs.PlaceLemmas.{text_unclosed, quote_read, backslash_read, text_bad}
use Rattle.tau_sexpr.proofs.reader.read_mark.Goals as goal

pub returns-then-at-bytes-clause-err : goal.returns-then-at-bytes-clause-err
returns-then-at-bytes-clause-err c = text_unclosed c.args.bytes.now c.args.at c.if-at-bytes.true

pub returns-then-byte-eq34-clause-closing : goal.returns-then-byte-eq34-clause-closing
returns-then-byte-eq34-clause-closing c =
    let lt : c.args.at < length c.args.bytes.now = omega arith in
    (lt, quote_read c.args.bytes.now c.args.at lt c.if-byte-eq34.true)

pub returns-in-Ok-clause-pair : goal.returns-in-Ok-clause-pair
returns-in-Ok-clause-pair c =
    let lt : c.args.at < length c.args.bytes.now = omega arith in
    let pair = c.in-Ok.ensures.ok in
    let two : c.args.at + 1 + 1 ≡ c.args.at + 2 = omega arith in (
      pair.0,
      pair.1,
      λ u s. backslash_read c.args.bytes.now c.args.at lt c.if-byte-eq92.true u s ∙ pair.2 u s ∙ ap (λ k. run (drop k c.args.bytes.now) k (in_text (u ++ c.in-Ok.byte ∷ [])) s) two,
    )

pub returns-in-Err-clause-err : goal.returns-in-Err-clause-err
returns-in-Err-clause-err c = λ u s. backslash_read c.args.bytes.now c.args.at (omega arith) c.if-byte-eq92.true u s ∙ c.in-Err.ensures.err u s

pub returns-clause-err : goal.returns-clause-err
returns-clause-err c = text_bad c.args.bytes.now c.args.at (omega arith) c.requires.mark c.if-byte-eq34.false c.if-byte-eq92.false
