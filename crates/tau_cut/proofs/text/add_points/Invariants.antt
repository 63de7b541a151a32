use Rattle.std.proofs.Common.{◌≡◌, ◌++◌, take}
use Rattle.tau_explain.specs.Texts.{chain_forms}
use Rattle.tau_explain.proofs.TextLemmas as points
use Rattle.tau_cut.proofs.text.add_points.Given as goal

abbrev pub invariant-loop-chained : goal.invariant-loop-chained
invariant-loop-chained l = (l.forms ≡ l.fn.forms ++ chain_forms l.opening (take l.chained-index l.chained-items)) × points.ArePrintable l.forms
