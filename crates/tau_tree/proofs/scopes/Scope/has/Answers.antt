use Rattle.std.proofs.Common.{◌≡◌, ◌<◌, length, below_more, arith, sym, ap, ◌∙◌}
use Rattle.std.proofs.lemmas.Bool.{false≢true}
use Rattle.std.proofs.lemmas.List.{get_or-map}
use Rattle.tau_tree.proofs.scopes.Scope.has.Goals as goal

pub loop-bound-preserved : goal.loop-bound-preserved
loop-bound-preserved c =
    let items = c.deref-bound-items.result.now in
    let i = c.loop-bound.bound-index in
    let bound = c.bound-item.result in
    let lt : i < length items = omega arith in
    below_more _ _ c.loop-bound.invariant (λ e. let equal : bound.now ≡ c.args.name.now = ap (λ w. w.now) c.bound-item.is ∙ sym (get_or-map (λ w. w.now) items i bound c.args.name.now lt) ∙ e in
    false≢true (sym c.if-same.false ∙ c.same.ensures.1 equal))
