use Rattle.tau_states.proofs.Reading as reading
use Rattle.tau_states.proofs.states.States.state_of.Goals as goal

pub returns-then-record : goal.returns-then-record
returns-then-record c T opening h = reading.ended_is T opening c.args.self.now.records h c.args.who c.in_ok-record.record.now c.in_ok-record.ensures c.if-record.true

pub returns : goal.returns
returns c T opening h = reading.state_is T opening c.args.self.now.records h c.args.who c.in_ok-record.record.now c.in_ok-record.ensures c.if-record.false
