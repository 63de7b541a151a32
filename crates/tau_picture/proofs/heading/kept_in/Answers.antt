use Rattle.std.proofs.Common.{◌≡◌, ◌∙◌, ◌<◌, ◌+◌, List, length, take, get_or, ap, sym, arith}
use Rattle.std.proofs.lemmas.List.{take_more}
use Rattle.tau_cut.specs.declared.cut.Marked.{Marked}
use Rattle.tau_cut.specs.Cuts.{places_in}
use Rattle.tau_picture.specs.Inner.Counting.{one_in}
use Rattle.tau_picture.proofs.Counting.{in_more}
use Rattle.tau_picture.proofs.heading.kept_in.Goals as goal

pub loop-marked-preserved : goal.loop-marked-preserved
loop-marked-preserved c =
    let ms = c.items-marked-items.result.now in
    let k = c.loop-marked.marked-index in
    let m = c.marked-item.result in
    let below : k < length ms = omega (arith, c.loop-marked-test.true) in
    let more : length (places_in (take (k + 1) ms)) ≡ length (places_in (take k ms)) + one_in m =
    ap (λ (l : List Marked). length (places_in l)) (take_more ms k m below) ∙ in_more (take k ms) (get_or ms k m) ∙ ap (λ (x : Marked). length (places_in (take k ms)) + one_in x) (sym c.marked-item.is) in
    (omega (arith, more, c.loop-marked.invariant.0, c.one_in-kept.ensures.count), omega (arith, c.loop-marked.invariant.1, c.one_in-kept.ensures.most))
