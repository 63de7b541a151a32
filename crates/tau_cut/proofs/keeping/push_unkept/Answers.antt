use Rattle.std.proofs.Common.{subst}
use Rattle.tau_past.specs.Tables.{TellsMade}
use Rattle.tau_cut.proofs.KeepLemmas.{unkept_one, unkept_known, unkept_nobody}
use Rattle.tau_cut.proofs.keeping.push_unkept.Goals as goal

pub returns-in_ok-push : goal.returns-in_ok-push
returns-in_ok-push c = unkept_one c.args.index.now c.args.kept.now c.args.place c.in-Some.made c.args.points.now.items c.push.new.self.items (subst (TellsMade c.args.index.now c.args.place) c.in-Some.is c.made_at.ensures)
    (λ h. let t = c.has.ensures.1 h in let f = c.if-not-has.true in cc) c.in_ok-push.ensures.items

pub returns-else-not-has : goal.returns-else-not-has
returns-else-not-has c = unkept_known c.args.index.now c.args.kept.now c.args.place c.in-Some.made c.args.points.now.items (subst (TellsMade c.args.index.now c.args.place) c.in-Some.is c.made_at.ensures) (c.has.ensures.0 c.if-not-has.false)

pub returns-in_default : goal.returns-in_default
returns-in_default c = unkept_nobody c.args.index.now c.args.kept.now c.args.place c.args.points.now.items (subst (TellsMade c.args.index.now c.args.place) c.in_default.is c.made_at.ensures)
