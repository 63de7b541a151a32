use denote.Param.Send.{sendable}
use Rattle.std.proofs.Common.{rules}
use Rattle.std.proofs.Crossing.{crosses}
use Rattle.tau_workers.proofs.Sends.{job_send}
use Rattle.tau_workers.proofs.SeatSends.{place_send}
use Rattle.tau_workers.proofs.Joins.{ones_back}
use Rattle.tau_workers.proofs.seats.work.Goals as goal

pub run-requires-send-T : goal.run-requires-send-T
run-requires-send-T g c κs within = search (crosses, sendable, place_send, job_send) depth 200 fits 100000

pub join_all-requires-clause-ones : goal.join_all-requires-clause-ones
join_all-requires-clause-ones g c =
    let ws = c.in_ok-workers.workers in
    ones_back c.args.table.now ws.items c.as_mut_slice.result.now c.run.new.workers ws.len (search rules) (search rules) (search rules) c.run.ensures.part c.in_ok-workers.ensures.ones
