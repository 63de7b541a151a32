-- What a step asks of the records that it changes.
use Rattle.std.specs.Prelude.{ℕ, ◌<◌}
use Rattle.tau_trace.specs.declared.step.Step.{Step}
use Rattle.tau_trace.specs.declared.step.Step.TheVariants.{New}

-- a New names a node below the number of nodes
abbrev pub MakesNodeBelow : ℕ → Step → Type 0
MakesNodeBelow nodes (New t b n v) = n < nodes
MakesNodeBelow nodes s = Unit {0}
