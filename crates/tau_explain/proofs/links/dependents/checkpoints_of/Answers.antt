use Rattle.std.proofs.Common.{arith, sym, ◌∙◌, ◌≡◌, ◌↔◌, ◌+◌, subst, Some}
use Rattle.tau_past.specs.Audits.{ChecksAt}
use Rattle.std.specs.HashMap.{get}
use Rattle.tau_past.specs.Tables.{same_point}
use Rattle.tau_explain.proofs.PushLemmas.{tells_all, tells_put, tells_pass, marked_read, unmarked_read, TellsBelow}
use Rattle.tau_explain.proofs.links.dependents.checkpoints_of.Goals as goal
use Rattle.tau_explain.proofs.links.dependents.checkpoints_of.Goals.{then-marks-place+in-Some+in_ok-insert, then-marks-place+in_default, else-marks-place}

pub loop-place-preserved : goal.loop-place-preserved
loop-place-preserved c =
    let T = c.args.index.now in
    let marks = c.args.marks.now in
    let n = c.loop-place.place in
    elim c.if-marks-place.branch [
      | then-marks-place+in-Some+in_ok-insert w ↦ λ q. subst (λ m. TellsBelow T marks (n + 1) q (get same_point m q)) (sym w.checkpoints-is)
          (tells_put T marks n w.in-Some.point q (get same_point c.loop-place.checkpoints q) _ (marked_read marks n _ (omega (arith, c.requires, c.loop-place-test.true, c.len-place-end.ensures)) w.if-marks-place.true)
          (λ p. subst (λ o. ChecksAt T n p ↔ (o ≡ Some p)) w.in-Some.is (w.checkpoint_at.ensures p)) (w.in_ok-insert.ensures.updates.0 q) (c.loop-place.invariant q))
      | then-marks-place+in_default w ↦ λ q. subst (λ m. TellsBelow T marks (n + 1) q (get same_point m q)) (sym w.checkpoints-is)
          (tells_pass T marks n q (get same_point c.loop-place.checkpoints q) (λ m k. let e = sym w.in_default.is ∙ (w.checkpoint_at.ensures q).0 k in cc) (c.loop-place.invariant q))
      | else-marks-place w ↦ λ q. subst (λ m. TellsBelow T marks (n + 1) q (get same_point m q)) (sym w.checkpoints-is)
          (tells_pass T marks n q (get same_point c.loop-place.checkpoints q) (λ m k. unmarked_read marks n _ (omega (arith, c.requires, c.loop-place-test.true, c.len-place-end.ensures)) w.if-marks-place.false m) (c.loop-place.invariant q))
    ]

pub returns : goal.returns
returns c = λ q. tells_all c.args.index.now c.args.marks.now c.loop-place.place q _ (omega (arith, c.requires, c.loop-place-test.false, c.len-place-end.ensures)) (c.loop-place.invariant q)
