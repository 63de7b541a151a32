use Rattle.std.proofs.Common.{◌++◌, List, ℕ, length}
use Rattle.tau_text.specs.Inner.Partial.{AreLines, IsReadFrom}
use Rattle.tau_text.proofs.PartialLemmas.{IsReadUpTo}
use Rattle.tau_text.proofs.by_parts.PartialText.add_parts.Given as goal

-- all bytes before the rest are read
abbrev pub invariant-loop-rest : goal.invariant-loop-rest
invariant-loop-rest l = (before : List ℕ) → AreLines before → IsReadFrom before l.initial.self → IsReadUpTo (before ++ l.bytes) l.rest l.self

abbrev pub decreases-loop-rest : goal.decreases-loop-rest
decreases-loop-rest l = length l.rest
