use Rattle.std.proofs.Common.{rules, subst, sym, []}
use Rattle.tau_seat.proofs.Keeps.{opens_at}
use Rattle.tau_seat.proofs.table.SeatTable.new.Goals as goal

pub new-requires : goal.new-requires
new-requires g c = opens_at _ _ _ _ c.args.book _ (search rules) (search rules) c.requires.empty (subst (λ k. g.B.Kept.is_sound k []) (sym c.key.ensures) c.requires.sound) (search rules)
