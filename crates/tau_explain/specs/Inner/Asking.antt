-- The answer by a chain, if there is one.
use Rattle.std.specs.Prelude.{List, Option, Some, None}
use Rattle.tau_explain.specs.declared.chains.chained.Chained.{Chained}
use Rattle.tau_explain.specs.declared.answers.Why.{Why}
use Rattle.tau_explain.specs.declared.answers.Why.TheVariants as answers

abbrev pub answer_of : Option (List Chained) → Why
answer_of (Some chain) = answers.Chain chain
answer_of None = answers.NoChain
