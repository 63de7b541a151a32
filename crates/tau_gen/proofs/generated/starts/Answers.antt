use Rattle.std.proofs.Common.{◌≡◌, [], ◌∷◌, ◌++◌, map, sym, ap, ◌∙◌, arith}
use Rattle.std.specs.List.{range_with_len}
use Rattle.std.proofs.lemmas.List.FromFn.{map-range_with_len_more}
use Rattle.tau_gen.specs.Generated.{start_at, starts}
use Rattle.tau_gen.proofs.generated.starts.Goals as goal

pub loop-number-preserved : goal.loop-number-preserved
loop-number-preserved c =
    let n = c.loop-number.number in
    c.in_ok-add.ensures.ok ∙ (λ i. c.loop-number.invariant i ++ c.in_ok-start.ensures i ∷ []) ∙ sym (map-range_with_len_more start_at 0 n n (omega arith))

pub returns : goal.returns
unfolding starts
returns c =
    let all : c.loop-number.number ≡ 16 = omega arith in
    c.loop-number.invariant ∙ ap (λ n. map start_at (range_with_len 0 n)) all
