use Rattle.std.proofs.Common.{◌≡◌, ◌∷◌, ◌++◌, [], take, length}
use Rattle.tau_sexpr.specs.Printing.{printed}
use Rattle.tau_storm.specs.Lines.{totals_form, outcome_lines}
use Rattle.tau_storm.proofs.writing.storm_text.Given as goal

abbrev pub invariant-loop-number : goal.invariant-loop-number
invariant-loop-number l = l.text.items ≡ printed (totals_form l.fn.seeds l.fn.totals (length l.outcomes) ∷ []) ++ outcome_lines 0 (take l.number l.outcomes)
