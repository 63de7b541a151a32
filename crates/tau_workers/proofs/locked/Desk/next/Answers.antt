use Rattle.std.proofs.Common.{refl, ◌∙◌}
use Rattle.tau_book.proofs.HandsLeft.{all_left, idle_left}
use Rattle.tau_workers.proofs.locked.Desk.next.Goals as goal

pub loop-init : goal.loop-init
loop-init g c = record { can_next = tt; is_finite = tt; size = refl; left = all_left (λ _. Unit {0}) c.args.hand.now }

pub loop-preserved : goal.loop-preserved
loop-preserved g c = record {
  can_next = tt;
  is_finite = tt;
  size = c.next-in-loop.ensures.size ∙ c.loop.invariant.size;
  left =
      idle_left (λ _. Unit {0}) _ _ c.args.hand.now c.loop.hand c.next-in-loop.new.hand c.in_ok-next.field-0 c.in-Idle.out c.in_ok-next.ensures.ok c.in-Idle.is (λ job closed. tt) c.loop.invariant.left;
}
