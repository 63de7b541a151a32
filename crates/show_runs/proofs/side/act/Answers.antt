use Rattle.std.proofs.lemmas.Bool.{false≢true}
use Rattle.show_runs.proofs.Seats.{stays_at}
use Rattle.show_runs.proofs.side.act.Goals as goal

pub act-told-requires-clause-known : goal.act-told-requires-clause-known
act-told-requires-clause-known g c = λ was. absurd (false≢true was)

pub returns : goal.returns
returns g c = record { at = stays_at c.args.table.now c.args.seat.now c.act-told.new.seat c.requires.at c.act-told.ensures.stays }
