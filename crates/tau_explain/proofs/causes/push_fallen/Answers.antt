use Rattle.std.proofs.Common.{arith, subst}
use Rattle.tau_past.specs.Tables.{TellsMade}
use Rattle.tau_explain.specs.Inner.Causes.{FellAt}
use Rattle.tau_explain.proofs.CauseLemmas.{fell_one, adds_nothing, marked_read, unmarked_read}
use Rattle.tau_explain.proofs.causes.push_fallen.Goals as goal

pub returns-in_ok-push : goal.returns-in_ok-push
returns-in_ok-push c = fell_one c.args.index.now c.args.marks.now c.args.place c.in-Some.made c.args.points.now.items c.push.new.self.items (subst (TellsMade c.args.index.now c.args.place) c.in-Some.is c.made_at.ensures) c.if-made.true
    (marked_read c.args.marks.now c.args.place _ (omega (arith, c.requires.place, c.requires.marks)) c.if-marks-place.true) c.in_ok-push.ensures.items

pub returns-else-marks-place : goal.returns-else-marks-place
returns-else-marks-place c = adds_nothing (FellAt c.args.index.now c.args.marks.now c.args.place) c.args.points.now.items (λ q f. unmarked_read c.args.marks.now c.args.place _ (omega (arith, c.requires.place, c.requires.marks)) c.if-marks-place.false f.marked)
