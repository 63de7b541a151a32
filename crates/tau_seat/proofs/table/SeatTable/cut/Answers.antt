use Rattle.std.proofs.Common.{rules}
use Rattle.tau_seat.proofs.Keeps.{splits}
use Rattle.tau_seat.proofs.table.SeatTable.cut.Goals as goal

pub split_seat-requires : goal.split_seat-requires
split_seat-requires g c = (search rules, search rules, splits _ _ _ _ _ _ _ (search rules) (search rules))
