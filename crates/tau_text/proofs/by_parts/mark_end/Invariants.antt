use Rattle.std.proofs.Common.{◌≤◌}
use Rattle.tau_text.proofs.by_parts.mark_end.Given as goal

-- the line begins no later than here
abbrev pub invariant-loop-place : goal.invariant-loop-place
invariant-loop-place l = l.start ≤ l.place
