use Rattle.std.proofs.Common.{IsTrue}
use Rattle.std.specs.List.{All, slice_range}
use Rattle.tau_sexpr.specs.Kinds.{is_plain}
use Rattle.tau_sexpr.proofs.reader.plain_end.Given as goal

abbrev pub invariant-loop-end : goal.invariant-loop-end
invariant-loop-end l = All (λ b. IsTrue (is_plain b)) (slice_range l.bytes l.start l.end)
