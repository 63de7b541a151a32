use Rattle.std.proofs.Common.{sym, subst}
use Rattle.tau_scene.specs.Causes.Looks.{IsStateLook}
use Rattle.tau_scene.proofs.Showing.{ended_state}
use Rattle.tau_scene.proofs.causes.grounds.Grounds.look_of.Goals as goal

pub returns-in-Some : goal.returns-in-Some
returns-in-Some c T cut points g is told = subst (IsStateLook T cut c.args.state) (sym c.saved_look.ensures) (ended_state T c.args.state is cut points c.args.self.now.fallen c.args.self.now.kept.items c.args.self.now.resting g c.args.rests told c.in-Some.place c.keeps.result c.in-Some.is c.keeps.ensures (λ h. let t = c.has.ensures.1 h in let f = c.if-has.false in cc))
