-- The cause of a step (docs/formats.md, "Pictures").
use Rattle.std.specs.Prelude.{◌⊎◌, ℕ, List, Option, Some, None, Contains}
use Rattle.tau_explain.specs.declared.chains.chained.Chained.{Chained}
use Rattle.tau_trace.specs.Run.{Run}
use Rattle.tau_explain.specs.declared.answers.Why.TheVariants as answers
use Rattle.tau_explain.specs.Decisions.{IsWhy}
use Rattle.tau_cut.specs.declared.cut.Marked.{Marked}
use Rattle.tau_cut.specs.declared.cut.Marked.TheVariants.{Out}

-- the chain tells why the Hold, Drop or Fall at place k was made, or why the Checkpoint there isn't in the cut
abbrev pub IsCause : Run → List Marked → ℕ → List Chained → Type 0
IsCause T cut k chain = IsWhy T k (answers.Chain chain) ⊎ Contains cut (Out k chain)

-- the cause of the step at place k; None where it has none
abbrev pub IsCauseAt : Run → List Marked → ℕ → Option (List Chained) → Type 0
IsCauseAt T cut k None = (chain : List Chained) → ¬ IsCause T cut k chain
IsCauseAt T cut k (Some chain) = IsCause T cut k chain
