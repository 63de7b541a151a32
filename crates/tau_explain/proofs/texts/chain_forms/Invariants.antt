use Rattle.std.proofs.Common.{◌≡◌, take}
use Rattle.tau_explain.specs.Texts.{chain_forms}
use Rattle.tau_explain.proofs.TextLemmas.{ArePrintable}
use Rattle.tau_explain.proofs.texts.chain_forms.Given as goal

abbrev pub invariant-loop-chained : goal.invariant-loop-chained
invariant-loop-chained l = (l.forms ≡ chain_forms l.opening (take l.chained-index l.chained-items)) × ArePrintable l.forms
