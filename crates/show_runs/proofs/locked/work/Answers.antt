use denote.Param.Send.{sendable}
use Rattle.std.proofs.Crossing.{crosses}
use Rattle.tau_workers.proofs.Sends.{trace_send, job_send, states_send, record_send, hearing_send, index_send, cursor_send, value_send, program_sync}
use Rattle.show_runs.proofs.locked.work.Goals as goal

pub run-requires-send-T : goal.run-requires-send-T
run-requires-send-T g c κs within = search (crosses, sendable, trace_send, job_send, states_send, record_send, hearing_send, index_send, cursor_send, value_send, program_sync) depth 200 fits 100000
