use Rattle.std.proofs.Common.{rules}
use Rattle.tau_seat.proofs.Keeps.{counts}
use Rattle.tau_seat.proofs.table.SeatTable.count.Goals as goal

pub fetch_add-requires : goal.fetch_add-requires
fetch_add-requires g c = (search rules, search rules, counts _ _ _ _ _ _ _ (search rules) (search rules) c.requires.more)
