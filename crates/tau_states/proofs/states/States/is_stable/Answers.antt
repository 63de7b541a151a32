use Rattle.std.proofs.Common.{◌<◌, arith}
use Rattle.tau_states.proofs.Reading as reading
use Rattle.tau_states.proofs.states.States.is_stable.Goals as goal

pub returns-in-Some-clause-stable : goal.returns-in-Some-clause-stable
returns-in-Some-clause-stable c T opening h l = reading.stable_is T opening c.args.self.now.records h c.args.who c.in-Some.record.now c.in-Some.ensures

pub returns-in-Some-clause-absent : goal.returns-in-Some-clause-absent
returns-in-Some-clause-absent c T opening h l = absurd (omega (arith, l, reading.exists T opening c.args.self.now.records h c.args.who c.in-Some.record.now c.in-Some.ensures))
