use Rattle.std.proofs.Common.{◌≢◌}
use Rattle.std.specs.List.{All, slice_range}
use Rattle.tau_sexpr.proofs.reader.line_end.Given as goal

abbrev pub invariant-loop-end : goal.invariant-loop-end
invariant-loop-end l = All (λ b. b ≢ 10) (slice_range l.bytes l.start l.end)
