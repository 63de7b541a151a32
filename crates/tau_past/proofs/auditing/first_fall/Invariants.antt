use Rattle.std.proofs.Common.{ℕ, ◌<◌}
use Rattle.tau_past.specs.Audits.{RollsBackAt}
use Rattle.tau_past.proofs.auditing.first_fall.Given as goal

abbrev pub invariant-loop-place : goal.invariant-loop-place
invariant-loop-place l = (j : ℕ) → j < l.place → ¬ RollsBackAt l.index l.point j
