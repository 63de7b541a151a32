-- The comparison by which outcomes are sorted.
use Rattle.std.specs.Ordering.{nat_cmp, on, then_cmp}
use Rattle.std.specs.declared.cmp.Ordering.{Ordering}
use Rattle.std.specs.Cmp.Lexicographic.{slice_cmp}
use Rattle.tau_storm.specs.declared.outcomes.Outcome.{Outcome}

-- by faults, then by steps, then by lines
abbrev pub outcome_cmp : Outcome → Outcome → Ordering
outcome_cmp = then_cmp (then_cmp (on (λ o. o.faults) nat_cmp) (on (λ o. o.steps) nat_cmp)) (on (λ o. o.lines) (slice_cmp nat_cmp))
