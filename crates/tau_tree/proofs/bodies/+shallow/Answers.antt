use Rattle.std.proofs.Common.{◌≡◌, ◌<◌, ◌≤◌, length, get_or, arith, sym, ◌∙◌}
use Rattle.tau_tree.specs.Parts.{depth_of, depth_of_all}
use Rattle.tau_tree.proofs.EachLemmas.{each_shallow, each-more, each-at}
use Rattle.tau_tree.proofs.bodies.+shallow.Goals as goal

pub are_shallow-returns-then-not-is_shallow : goal.are_shallow-returns-then-not-is_shallow
are_shallow-returns-then-not-is_shallow t c = (
  λ h. absurd (cc),
  λ h. let lt : c.loop-item.item-index < length c.args.exprs.now.items.items = omega arith in
      let first : c.item-item.result ≡ get_or c.args.exprs.now.items.items c.loop-item.item-index c.item-item.result = cc in
      sym c.if-not-is_shallow.true ∙ c.is_shallow.ensures.1 (each-at (λ d. depth_of d ≤ c.args.room) (λ ds. depth_of_all ds ≤ c.args.room) (each_shallow c.args.room) c.args.exprs.now.items.items c.loop-item.item-index c.item-item.result lt first h),
)

pub are_shallow-loop-item-preserved : goal.are_shallow-loop-item-preserved
are_shallow-loop-item-preserved t c =
    each-more (λ d. depth_of d ≤ c.args.room) (λ ds. depth_of_all ds ≤ c.args.room) (each_shallow c.args.room) c.deref-item-items.result.now c.loop-item.item-index c.item-item.result (omega arith) c.item-item.is c.loop-item.invariant (c.is_shallow.ensures.0 c.if-not-is_shallow.false)
