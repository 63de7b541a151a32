use Rattle.std.proofs.Common.{arith}
use Rattle.tau_sexpr.proofs.PlaceLemmas.{word_bytes, word_read}
use Rattle.tau_sexpr.proofs.reader.read_word.Goals as goal

pub of-requires : goal.of-requires
of-requires c = word_bytes c.args.bytes.now c.args.at c.word_end-end.result c.requires.within c.word_end-end.ensures.least c.requires.begins c.word_end-end.ensures.word

pub returns : goal.returns
returns c = (
  omega arith,
  c.word_end-end.ensures.most,
  word_read c.args.bytes.now c.args.at c.word_end-end.result c.requires.within c.word_end-end.ensures.least c.word_end-end.ensures.most c.requires.begins
      c.word_end-end.ensures.word c.word_end-end.ensures.ends c.in_ok-word.word c.in_ok-word.ensures,
)
