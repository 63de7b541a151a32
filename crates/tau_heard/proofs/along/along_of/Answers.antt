use Rattle.std.proofs.Common.{Bool, sym, subst}
use Rattle.tau_heard.specs.Turns.{IsAlong}
use Rattle.tau_heard.proofs.along.along_of.Goals as goal

pub returns : goal.returns
returns c = let F : Bool → Type 0 = λ d. IsAlong c.args.own.now.touched d c.args.me c.args.own.now.roots c.in_ok-along.along in subst F (sym c.if-own.false) c.in_ok-along.ensures
