use Rattle.std.proofs.Common.{arith}
use Rattle.tau_explain.proofs.PushLemmas.{taker_pushed, no_taker, not_marked, marked_read, unmarked_read}
use Rattle.tau_explain.proofs.links.dependents.push_taker.Goals as goal

pub returns-in_ok-push : goal.returns-in_ok-push
returns-in_ok-push c = taker_pushed c.args.index.now c.args.marks.now c.args.place c.in-Some.point _ c.args.into.now.items c.push.new.self.items c.taker_at.ensures c.in-Some.is
    (marked_read c.args.marks.now c.args.place _ (omega (arith, c.requires.place, c.requires.marks)) c.if-marks-place.true) c.in_ok-push.ensures.items

pub returns-in_default : goal.returns-in_default
returns-in_default c = no_taker c.args.index.now c.args.marks.now c.args.place _ c.args.into.now.items c.taker_at.ensures c.in_default.is

pub returns-else-marks-place : goal.returns-else-marks-place
returns-else-marks-place c = not_marked c.args.index.now c.args.marks.now c.args.place c.args.into.now.items (unmarked_read c.args.marks.now c.args.place _ (omega (arith, c.requires.place, c.requires.marks)) c.if-marks-place.false)
