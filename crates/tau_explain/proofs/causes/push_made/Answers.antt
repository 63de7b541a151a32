use Rattle.std.proofs.Common.{arith, subst}
use Rattle.tau_past.specs.Tables.{TellsMade}
use Rattle.tau_explain.specs.Inner.Causes.{IsMadePoint}
use Rattle.tau_explain.specs.Inner.Hearing.{IsMarked}
use Rattle.tau_explain.proofs.CauseLemmas.{unfirm_made, unfirm_none, marked_read, unmarked_read}
use Rattle.tau_explain.proofs.causes.push_made.Goals as goal

pub returns-in_ok-push_unfirm : goal.returns-in_ok-push_unfirm
returns-in_ok-push_unfirm c = unfirm_made c.args.fallen.now c.args.stable.now c.args.index.now c.args.marks.now c.args.place c.in-Some.made c.args.points.now.items c.push_unfirm.new.points.items (subst (TellsMade c.args.index.now c.args.place) c.in-Some.is c.made_at.ensures)
    (marked_read c.args.marks.now c.args.place _ (omega (arith, c.requires.place, c.requires.marks)) c.if-marks-place.true) c.in_ok-push_unfirm.ensures

pub returns-else-marks-place : goal.returns-else-marks-place
returns-else-marks-place c = unfirm_none c.args.fallen.now c.args.stable.now (λ q. IsMarked c.args.marks.now c.args.place × IsMadePoint c.args.index.now c.args.place q) c.args.points.now.items
    (λ q p. unmarked_read c.args.marks.now c.args.place _ (omega (arith, c.requires.place, c.requires.marks)) c.if-marks-place.false p.0)
