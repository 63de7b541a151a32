use denote.Param.Send.{IsSend, IsSync, sendable}
use Rattle.std.proofs.Crossing.{crosses}
use Rattle.tau_value.proofs.shared.Values.TheLaws.TheKnot.{both_send-Values}
use Rattle.tau_value.proofs.shared.Values.TheLaws.TheKnot.{both_sync-Values}
use Rattle.tau_tree.specs.contracts.programs.Program as program
use Rattle.tau_states.specs.contracts.states.States as states
use Rattle.tau_rules.specs.contracts.records.Record as kept
use Rattle.tau_verdicts.specs.contracts.marked.MarkedHearing as hearing
use Rattle.tau_queue.specs.contracts.index.Index as index
use Rattle.tau_script.specs.contracts.cursor.Cursor as cursor
use Rattle.tau_tree.proofs.expressions.Expr.TheLaws.TheKnot.{both_sync-Expr}
use Rattle.tau_history.proofs.chunk.Chunk.TheLaws.TheKnot.{both_send-Chunk, both_sync-Chunk}
use Rattle.tau_sexpr.specs.contracts.words.Word as word
use Rattle.tau_value.specs.contracts.shared.Value as value
use Rattle.tau_value.specs.contracts.shared.Values as values
use Rattle.tau_tree.specs.contracts.expressions.Expr as expr
use Rattle.tau_trace.specs.contracts.step.Step as step
use Rattle.tau_trace.specs.contracts.trace.Trace as trace
use Rattle.tau_trace.proofs.opening.Opening.TheSendSync as opening_crosses
use Rattle.tau_trace.proofs.message.Message.TheSendSync as message_crosses
use Rattle.tau_trace.specs.contracts.transactors.Transactors as transactors
use Rattle.tau_eval.specs.contracts.effects.Effect as effect
use Rattle.tau_eval.specs.contracts.frames.Frame as frame
use Rattle.tau_eval.specs.contracts.scopes.Scope as scope
use Rattle.tau_eval.specs.contracts.machine.Machine as machine
use Rattle.tau_eval.specs.contracts.machine.Focus as focus
use Rattle.tau_eval.specs.contracts.course.Course as course
use Rattle.tau_eval.specs.contracts.course.State as state
use Rattle.tau_eval.specs.contracts.job.Job as job

pub values_send : IsSend (values.the_field).row
values_send = search (crosses, sendable, both_send-Values) depth 60

pub value_send : IsSend (value.the_field).row
value_send = search (crosses, sendable, both_send-Values) depth 60

pub step_send : IsSend (step.the_field).row
step_send = search (crosses, sendable, value_send) depth 200 fits 100000

transactors_send : IsSend (transactors.the_field).row
transactors_send = search (crosses, sendable) depth 20

pub trace_send : IsSend (trace.the_field).row
trace_send = search (crosses, sendable, step_send, opening_crosses.the_field_send, message_crosses.the_field_send, transactors_send) depth 40

pub expr_sync : IsSync (expr.the_field).row
expr_sync = search (crosses, sendable, both_sync-Expr) depth 60

pub effect_send : IsSend (effect.the_field).row
effect_send = search (crosses, sendable, value_send) depth 200 fits 100000

pub focus_send : (l : _) → IsSend (focus.the_field l).row
focus_send l = search (crosses, sendable, value_send, expr_sync) depth 200 fits 100000

word_sync : IsSync (word.the_field).row
word_sync = search (crosses, sendable) depth 60

pub frame_send : (l : _) → IsSend (frame.the_field l).row
frame_send l = search (crosses, sendable, value_send, values_send, expr_sync, word_sync) depth 200 fits 100000

pub scope_send : (l : _) → IsSend (scope.the_field l).row
scope_send l = search (crosses, sendable, value_send, word_sync) depth 200 fits 100000

pub machine_send : (l : _) → IsSend (machine.the_field l).row
machine_send l = search (crosses, sendable, frame_send, scope_send) depth 200 fits 100000

pub state_send : (l : _) → IsSend (state.the_field l).row
state_send l = search (crosses, sendable, focus_send, effect_send) depth 200 fits 100000

pub course_send : (l : _) → IsSend (course.the_field l).row
course_send l = search (crosses, sendable, machine_send, value_send, expr_sync) depth 200 fits 100000

pub job_send : (l : _) → IsSend (job.the_field l).row
job_send l = search (crosses, sendable, course_send, state_send) depth 200 fits 100000

pub states_send : IsSend (states.the_field).row
states_send = search (crosses, sendable, value_send) depth 200 fits 100000

pub record_send : IsSend (kept.the_field).row
record_send = search (crosses, sendable, value_send, values_send) depth 200 fits 100000

pub hearing_send : IsSend (hearing.the_field).row
hearing_send = search (crosses, sendable, both_send-Chunk, both_sync-Chunk) depth 200 fits 100000

pub index_send : IsSend (index.the_field).row
index_send = search (crosses, sendable) depth 200 fits 100000

pub cursor_send : IsSend (cursor.the_field).row
cursor_send = search (crosses, sendable) depth 200 fits 100000

pub value_sync : IsSync (value.the_field).row
value_sync = search (crosses, sendable, both_sync-Values) depth 60

pub program_sync : IsSync (program.the_field).row
program_sync = search (crosses, sendable, expr_sync, value_sync, word_sync) depth 200 fits 100000
