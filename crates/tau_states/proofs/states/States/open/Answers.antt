use Rattle.tau_states.proofs.Tables.{holds_opened}
use Rattle.tau_states.proofs.states.States.open.Goals as goal

pub returns : goal.returns
returns c o count = rw (c.in_ok-started_records.ensures, c.items.ensures) (holds_opened o c.args.starts.now count)
