use Rattle.tau_states.proofs.Reading as reading
use Rattle.tau_states.proofs.states.States.interval_of.Goals as goal

pub returns : goal.returns
returns c T opening h = reading.interval_is T opening c.args.self.now.records h c.args.who c.in_ok-record_of.field-0.now c.in_ok-record_of.ensures
