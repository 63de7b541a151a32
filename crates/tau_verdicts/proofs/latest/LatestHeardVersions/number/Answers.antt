use Rattle.std.proofs.Common.{ℕ, ◌-◌, ◌^◌, min, ap, ◌∙◌}
use Rattle.tau_verdicts.proofs.latest.LatestHeardVersions.number.Goals as goal

pub returns : goal.returns
returns c = let F : ℕ → ℕ = λ k. min k (2 ^ 32 - 1) in c.small.ensures ∙ ap F c.last_number.ensures
