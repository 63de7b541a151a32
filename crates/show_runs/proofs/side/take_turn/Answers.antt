use Rattle.show_runs.proofs.Seats.{stays_at}
use Rattle.show_runs.proofs.side.take_turn.Goals as goal

pub returns : goal.returns
returns g c = record { at = stays_at c.args.table.now c.args.side.now.seat c.give_back.new.seat c.requires.at c.give_back.ensures.stays }
