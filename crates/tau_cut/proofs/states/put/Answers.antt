use Rattle.std.proofs.Common.{ap, arith, set, Some}
use Rattle.tau_cut.specs.declared.states.Kept.{Kept}
use Rattle.tau_cut.proofs.states.put.Goals as goal

pub returns-then-who-len : goal.returns-then-who-len
returns-then-who-len c = λ lt. absurd (omega (arith, lt, c.if-who-len.true, c.len.ensures, c.args.kept.now.ok.0))

pub returns : goal.returns
returns c = λ lt. ap (λ (k : Kept). set c.args.kept.now.items c.args.who (Some k)) c.in_ok-one.ensures
