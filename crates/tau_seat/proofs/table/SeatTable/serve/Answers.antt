use Rattle.std.proofs.Common.{rules}
use Rattle.tau_seat.proofs.Keeps.{serves}
use Rattle.tau_seat.proofs.table.SeatTable.serve.Goals as goal

pub fetch_add-served-requires : goal.fetch_add-served-requires
fetch_add-served-requires g c = (search rules, search rules, serves _ _ _ _ _ _ _ (search rules) (search rules) (search rules) c.requires.holds)
