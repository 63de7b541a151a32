use Rattle.std.proofs.Common.{rules}
use Rattle.tau_seat.proofs.Keeps.{draws}
use Rattle.tau_seat.proofs.table.SeatTable.draw.Goals as goal

pub fetch_add-requires : goal.fetch_add-requires
fetch_add-requires g c = (search rules, search rules, draws _ _ _ _ _ _ _ (search rules) (search rules) (search rules))
