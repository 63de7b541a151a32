use Rattle.std.proofs.Common.{◌≡◌, ◌↔◌, ◌<◌, IsTrue, length, get_or, arith, sym, ◌∙◌}
use Rattle.tau_tree.specs.Expr.{code_of}
use Rattle.tau_tree.specs.Parts.{IsBoundIn, AllBoundIn}
use Rattle.tau_tree.proofs.EachLemmas.{each_bound, each-more, each-at}
use Rattle.tau_tree.proofs.bodies.+bound.Goals as goal

pub are_bound-returns-then-not-branch-clause-value : goal.are_bound-returns-then-not-branch-clause-value
are_bound-returns-then-not-branch-clause-value t c = (
  λ h. absurd (cc),
  λ h. let lt : c.loop-item.item-index < length c.args.exprs.now.items.items = omega arith in
      let first : c.item-item.result ≡ get_or c.args.exprs.now.items.items c.loop-item.item-index c.item-item.result = cc in
      let test : IsTrue c.in_ok-is_bound.field-0 ↔ IsBoundIn c.args.scope.now (code_of c.item-item.result) = rw (c.loop-item.invariant.0) at c.in_ok-is_bound.ensures.value in
      sym c.if-not-branch.true ∙ test.1 (each-at (IsBoundIn c.args.scope.now) (AllBoundIn c.args.scope.now) (each_bound c.args.scope.now) c.args.exprs.now.items.items c.loop-item.item-index c.item-item.result lt first h),
)

pub are_bound-loop-item-preserved : goal.are_bound-loop-item-preserved
are_bound-loop-item-preserved t c =
    let test : IsTrue c.in_ok-is_bound.field-0 ↔ IsBoundIn c.args.scope.now (code_of c.item-item.result) = rw (c.loop-item.invariant.0) at c.in_ok-is_bound.ensures.value in (
      c.in_ok-is_bound.ensures.scope ∙ c.loop-item.invariant.0,
      each-more (IsBoundIn c.args.scope.now) (AllBoundIn c.args.scope.now) (each_bound c.args.scope.now) c.deref-item-items.result.now c.loop-item.item-index c.item-item.result (omega arith) c.item-item.is c.loop-item.invariant.1 (test.0 c.if-not-branch.false),
    )
