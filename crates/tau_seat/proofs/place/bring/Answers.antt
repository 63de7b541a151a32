use Rattle.tau_seat.proofs.Knowing.{told_known}
use Rattle.tau_seat.proofs.place.bring.Goals as goal

pub returns-clause-jobs : goal.returns-clause-jobs
returns-clause-jobs g c =
    told_known c.known_jobs_are_handed_on.ensures.act c.args.seat.now c.act.new.seat c.args.hand.now c.act.new.hand c.args.pending c.act.ensures.stays.program_is c.act.result c.act.ensures.prefix c.act.ensures.answer c.act.ensures.hand_on_err
