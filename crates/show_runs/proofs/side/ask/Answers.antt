use Rattle.show_runs.proofs.Seats.{stays_at}
use Rattle.show_runs.proofs.side.ask.Goals as goal

pub returns-in_err-answer : goal.returns-in_err-answer
returns-in_err-answer g c = record { at = stays_at c.args.table.now c.args.side.now.seat c.next.new.seat c.requires.at c.next.ensures.stays }

pub returns : goal.returns
returns g c = record { at = stays_at c.args.table.now c.args.side.now.seat c.next.new.seat c.requires.at c.next.ensures.stays }
