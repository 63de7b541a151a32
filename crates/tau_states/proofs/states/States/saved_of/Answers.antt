use Rattle.tau_states.proofs.Reading as reading
use Rattle.tau_states.proofs.states.States.saved_of.Goals as goal

pub returns-then-record-eq0 : goal.returns-then-record-eq0
returns-then-record-eq0 c T opening h = reading.at_first T opening c.args.self.now.records h c.args.who c.in_ok-record.record.now c.in_ok-record.ensures c.if-record-eq0.true

pub returns : goal.returns
returns c T opening h = reading.saved_is T opening c.args.self.now.records h c.args.who c.in_ok-record.record.now c.in_ok-record.ensures c.if-record-eq0.false
