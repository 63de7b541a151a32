use Rattle.std.proofs.Common.{[], ◌∷◌, ◌++◌, sym, ◌∙◌, arith}
use Rattle.std.proofs.lemmas.List.FromFn.{map-range_with_len_more}
use Rattle.tau_tree.specs.Code.{start}
use Rattle.tau_tree.proofs.ExprLemmas.{code_of-Start}
use Rattle.tau_gen.proofs.hop.all_starts.Goals as goal

pub loop-number-preserved : goal.loop-number-preserved
loop-number-preserved c =
    let n = c.loop-number.number in
    c.in_ok-add.ensures.ok ∙ (λ i. c.loop-number.invariant i ++ code_of-Start n i ∷ []) ∙ sym (map-range_with_len_more start 0 n n (omega arith))
