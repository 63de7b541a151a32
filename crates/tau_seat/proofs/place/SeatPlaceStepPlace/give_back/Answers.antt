use Rattle.std.proofs.Common.{◌∙◌, subst}
use Rattle.tau_eval.specs.Turn.{TurnSoFar}
use Rattle.tau_seat.specs.SeatPlaces.{Placed, Vouches}
use Rattle.tau_seat.proofs.Ends.{ended_grows}
use Rattle.tau_seat.proofs.Knowing.{vouched_longer}
use Rattle.tau_seat.proofs.place.SeatPlaceStepPlace.give_back.Goals as goal

pub invariant_of-self : goal.invariant_of-self
invariant_of-self g c =
    let stays = c.give_back.ensures.stays in
    (stays.table_is ∙ c.self.invariant.0, ended_grows c.self.inside.seat c.give_back.new.seat stays.program_is stays.limit_is c.give_back.ensures.prefix c.give_back.ensures.sound c.self.inside.is_complete c.self.invariant.1)

pub returns-clause-vouched : goal.returns-clause-vouched
returns-clause-vouched g c =
    let o : Placed = record { seat = c.self.inside.seat; is_complete = c.self.inside.is_complete; knows = c.self.inside.knows } in
    let n : Placed = record { seat = c.give_back.new.seat; is_complete = c.self.inside.is_complete; knows = c.self.inside.knows } in
    subst (λ (p : Placed). (job : TurnSoFar) → Vouches p job → Vouches n job) c.self.view_is (vouched_longer o n (λ e. e) c.give_back.ensures.stays.program_is c.give_back.ensures.prefix)
