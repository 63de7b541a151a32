use Rattle.std.specs.List.{All, slice_range}
use Rattle.tau_sexpr.specs.Bytes.{IsWordByte}
use Rattle.tau_sexpr.proofs.reader.word_end.Given as goal

abbrev pub invariant-loop-end : goal.invariant-loop-end
invariant-loop-end l = All IsWordByte (slice_range l.bytes l.start l.end)
