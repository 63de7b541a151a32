-- The lines that tell why a decision was made (docs/formats.md, "Chains").
use Rattle.std.specs.Prelude.{ℕ, List, [], ◌∷◌, Option, Some, None, map, codes}
use Rattle.tau_explain.specs.declared.chains.chained.Chained.{Chained}
use Rattle.tau_sexpr.specs.Tree.{Tree, word, headed}
use Rattle.tau_value.specs.Written.{count_form}
use Rattle.tau_trace.specs.declared.opening.Opening.{Opening}
use Rattle.tau_steps.specs.StepForms.{who_form}
use Rattle.tau_explain.specs.declared.answers.Why.{Why}
use Rattle.tau_explain.specs.declared.answers.Why.TheVariants as answers

-- the word that begins the form of a point
abbrev pub point_word : List ℕ
point_word = codes "point"

-- the place of a step, if there is one
abbrev pub place_forms : Option ℕ → List Tree
place_forms (Some place) = count_form place ∷ []
place_forms None = []

-- a point of a chain: its transactor, its interval, its incarnation, and the place of a step that makes the link to it
abbrev pub point_form : Opening → Chained → Tree
point_form o c = headed point_word (who_form o c.point.who ∷ count_form c.point.interval ∷ count_form c.point.incarnation ∷ place_forms c.by)

-- the points of a chain
abbrev pub chain_forms : Opening → List Chained → List Tree
chain_forms o cs = map (point_form o) cs

-- what is told where there is no chain
abbrev pub none_form : Tree
none_form = word (codes "none")

-- the points of the chain, or the word none; nothing where the place is no decision
abbrev pub why_forms : Opening → Why → List Tree
why_forms o (answers.Chain chain) = chain_forms o chain
why_forms o answers.NoChain = none_form ∷ []
why_forms o answers.NotAsked = []
