-- The lines that tell a storm (docs/formats.md, "Storm").
use Rattle.std.specs.Prelude.{◌++◌, ◌∷◌, ◌+◌, ℕ, List, [], length, codes}
use Rattle.tau_sexpr.specs.Tree.{Tree, headed}
use Rattle.tau_sexpr.specs.Printing.{printed}
use Rattle.tau_value.specs.Written.{count_form}
use Rattle.tau_report.specs.Report.{count_of}
use Rattle.tau_storm.specs.declared.outcomes.Outcome.{Outcome}
use Rattle.tau_storm.specs.declared.totals.Totals.{Totals}

-- the first line: how many seeds there were, the totals, and how many outcomes
abbrev pub totals_form : ℕ → Totals → ℕ → Tree
totals_form seeds t outcomes = headed (codes "storm") (count_of (codes "seeds") seeds ∷ count_of (codes "runs") t.runs ∷ count_of (codes "complete") t.complete ∷ count_of (codes "open") t.stopped ∷ count_of (codes "steps") t.steps ∷ count_of (codes "outcomes") outcomes ∷ [])

-- the line of outcome number n
abbrev pub outcome_form : ℕ → Outcome → Tree
outcome_form n o = headed (codes "outcome") (count_form n ∷ count_of (codes "runs") o.runs ∷ count_of (codes "seed") o.seed ∷ count_of (codes "faults") o.faults ∷ count_of (codes "steps") o.steps ∷ [])

-- the lines of the outcomes from number n on: that of each, and then its own
abbrev pub outcome_lines : ℕ → List Outcome → List ℕ
outcome_lines n [] = []
outcome_lines n (o ∷ outcomes) = printed (outcome_form n o ∷ []) ++ o.lines ++ outcome_lines (n + 1) outcomes

-- the whole text
abbrev pub storm_text : ℕ → Totals → List Outcome → List ℕ
storm_text seeds t outcomes = printed (totals_form seeds t (length outcomes) ∷ []) ++ outcome_lines 0 outcomes
