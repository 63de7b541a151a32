use Rattle.std.proofs.Common.{rules, refl, ap, sym, ◌∙◌, ◌∷◌, Some, subst}
use Rattle.std.specs.Prelude.{IsSome}
use Rattle.atomic_table.specs.Table.{rest}
use Rattle.tau_seat.proofs.Turns.{takes_out, was_there}
use Rattle.tau_seat.proofs.table.SeatTable.take.Goals as goal

pub exchange-requires : goal.exchange-requires
exchange-requires g c = let t = c.wait.ensures.turn in (search rules, (Some t.0, ap (λ m. m.1) t.2 ∙ sym (ap (λ m. (0, Some t.0) ∷ rest m.1) t.2)))

pub unwrap-requires : goal.unwrap-requires
unwrap-requires g c = let t = c.wait.ensures.turn in subst (λ o. IsSome o) (sym (was_there c.draw-ticket.new.seat.me c.wait.new.seat.me t.0 c.exchange.result t.2 c.exchange.ensures.2)) refl

pub returns-clause-taken : goal.returns-clause-taken
returns-clause-taken g c = let t = c.draw-ticket.ensures.ticket in takes_out g.B.Kept.key_of g.B.Kept.entries g.B.Kept.is_sound c.args.seat.now.me.0 _ _ _ t.0 _ _ (t.1 ∙ search rules) c.wait.ensures.turn c.exchange.ensures.2 (search rules) c.exchange.ensures.3
