use Rattle.std.proofs.Common.{◌∙◌, All, sym, subst}
use Rattle.tau_eval.specs.Turn.{TurnSoFar}
use Rattle.tau_seat.specs.SeatPlaces.{Placed, Vouches}
use Rattle.tau_seat.proofs.Ends.{ended_grows}
use Rattle.tau_seat.proofs.Knowing.{vouched_longer, vouched_jobs}
use Rattle.tau_seat.proofs.place.SeatPlaceStepPlace.act.Goals as goal

pub invariant_of-self : goal.invariant_of-self
invariant_of-self g c =
    let stays = c.bring.ensures.stays in
    (stays.table_is ∙ c.self.invariant.0, ended_grows c.self.inside.seat c.bring.new.seat stays.program_is stays.limit_is c.bring.ensures.prefix c.bring.ensures.sound c.self.inside.is_complete c.self.invariant.1)

pub returns-clause-vouched : goal.returns-clause-vouched
returns-clause-vouched g c =
    let o : Placed = record { seat = c.self.inside.seat; is_complete = c.self.inside.is_complete; knows = c.self.inside.knows } in
    let n : Placed = record { seat = c.bring.new.seat; is_complete = c.self.inside.is_complete; knows = c.self.inside.knows } in
    subst (λ (p : Placed). (job : TurnSoFar) → Vouches p job → Vouches n job) c.self.view_is (vouched_longer o n (λ e. e) c.bring.ensures.stays.program_is c.bring.ensures.prefix)

pub returns-clause-known : goal.returns-clause-known
returns-clause-known g c =
    let o : Placed = record { seat = c.self.inside.seat; is_complete = c.self.inside.is_complete; knows = c.self.inside.knows } in
    let n : Placed = record { seat = c.bring.new.seat; is_complete = c.self.inside.is_complete; knows = c.self.inside.knows } in
    subst (λ (p : Placed). All (Vouches p) c.args.hand.now.jobs → All (Vouches n) c.bring.new.hand.jobs) c.self.view_is
    (vouched_jobs o n (λ e. e) c.args.hand.now.jobs c.bring.new.hand.jobs (λ e. c.bring.ensures.jobs)) c.requires.known

pub bring-requires-clause-known : goal.bring-requires-clause-known
bring-requires-clause-known g c = subst (λ (p : Placed). Vouches p c.args.pending) (sym c.self.view_is) c.requires.pending
