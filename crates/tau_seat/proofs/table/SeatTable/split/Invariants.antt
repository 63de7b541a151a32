use Rattle.tau_seat.proofs.table.SeatTable.split.Given as goal

abbrev pub ghosts-cut : goal.ghosts-cut
ghosts-cut g a = record { keep = a._keep }
