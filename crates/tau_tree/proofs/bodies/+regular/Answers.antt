use Rattle.std.proofs.Common.{◌≡◌, ◌<◌, length, get_or, arith, sym, ◌∙◌}
use Rattle.tau_tree.specs.Parts.{Throughout, AllThroughout}
use Rattle.tau_tree.specs.Checks.{KeepsRules}
use Rattle.tau_tree.proofs.EachLemmas.{each_throughout, each-more, each-at}
use Rattle.tau_tree.proofs.bodies.+regular.Goals as goal

pub are_regular-returns-then-not-is_regular : goal.are_regular-returns-then-not-is_regular
are_regular-returns-then-not-is_regular t c =
    let P = KeepsRules c.args.starts c.args.behaviours in (
      λ h. absurd (cc),
      λ h. let lt : c.loop-item.item-index < length c.args.exprs.now.items.items = omega arith in
          let first : c.item-item.result ≡ get_or c.args.exprs.now.items.items c.loop-item.item-index c.item-item.result = cc in
          sym c.if-not-is_regular.true ∙ c.is_regular.ensures.1 (each-at (Throughout P) (AllThroughout P) (each_throughout P) c.args.exprs.now.items.items c.loop-item.item-index c.item-item.result lt first h),
    )

pub are_regular-loop-item-preserved : goal.are_regular-loop-item-preserved
are_regular-loop-item-preserved t c =
    let P = KeepsRules c.args.starts c.args.behaviours in
    each-more (Throughout P) (AllThroughout P) (each_throughout P) c.deref-item-items.result.now c.loop-item.item-index c.item-item.result (omega arith) c.item-item.is c.loop-item.invariant (c.is_regular.ensures.0 c.if-not-is_regular.false)
