use Rattle.std.proofs.Common.{rules}
use Rattle.tau_seat.proofs.Keeps.{looks}
use Rattle.tau_seat.proofs.table.SeatTable.look.Goals as goal

pub load-requires : goal.load-requires
load-requires g c = (search rules, search rules, looks _ _ _ _ _ _ _ (search rules) (search rules))
