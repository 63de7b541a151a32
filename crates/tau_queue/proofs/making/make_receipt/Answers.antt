use Rattle.std.proofs.Common.{ℕ, subst}
use Rattle.tau_trace.specs.Run.{Run, len}
use Rattle.tau_trace.specs.Turns.{Turn}
use Rattle.tau_trace.proofs.Once.{receives_once}
use Rattle.tau_rules.specs.declared.errors.DeliverError.{DeliverError}
use Rattle.tau_rules.specs.Answers.{IsUndelivered}
use Rattle.tau_queue.proofs.making.make_receipt.Goals as goal

pub unreachable-requires-in-Err-Busy : goal.unreachable-requires-in-Err-Busy
unreachable-requires-in-Err-Busy g c =
    let T : Run = c.args.system.now.system.run in
    let h = subst (λ (e : DeliverError). IsUndelivered T c.args.letter.message e) c.in-Err-Busy.field-0-is c.in-Err-Busy.ensures.err in
    let same = receives_once T c.args.letter.message h.0 c.args.letter.who h.1 c.requires.waits.receiver in
    c.requires.idle c.in-Err-Busy.field-0-0 h.2.0 (subst (λ (t : ℕ). Turn T t (len T) c.in-Err-Busy.field-0-0 h.2.0) same h.2.1)
