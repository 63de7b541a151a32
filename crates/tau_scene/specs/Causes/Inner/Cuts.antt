-- The chains of marks that are Out.
use Rattle.std.specs.Prelude.{ℕ, List, Option, Some, None, Contains, if◌then◌else◌, ◌==◌}
use Rattle.tau_explain.specs.declared.chains.chained.Chained.{Chained}
use Rattle.tau_cut.specs.declared.cut.Marked.{Marked}
use Rattle.tau_cut.specs.declared.cut.Marked.TheVariants.{In, Out}

-- the chain of a mark, where it is Out and stands at place k
abbrev pub chain_for : ℕ → Marked → Option (List Chained)
chain_for k (In j) = None
chain_for k (Out j chain) = if j == k then Some chain else None

-- the chain of a mark that is Out at place k; None where there is none
abbrev pub IsChainAt : List Marked → ℕ → Option (List Chained) → Type 0
IsChainAt cut k None = (chain : List Chained) → ¬ Contains cut (Out k chain)
IsChainAt cut k (Some chain) = Contains cut (Out k chain)
