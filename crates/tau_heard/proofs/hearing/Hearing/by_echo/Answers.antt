use Rattle.std.proofs.Common.{Some, refl, ap}
use Rattle.tau_trace.specs.Steps.{actor}
use Rattle.tau_heard.proofs.Sending.{echo_leads}
use Rattle.tau_heard.proofs.hearing.Hearing.by_echo.Goals as goal

pub returns : goal.returns
returns c =
    rw c.of.ensures
    (echo_leads c.args.self.now c.args.trace.now.run c.args._step.now c.requires.next c.args.who (ap actor c.requires.kind) c.args.message (record { sender = Some (record { who = c.args.who; version = c.last_number-version.result; numbers = c.args.numbers }); roots = c.none.result })
    (record { who = c.args.who; version = c.last_number-version.result; numbers = c.args.numbers }) c.requires.kind refl refl c.last_number-version.ensures c.requires.numbers c.none.ensures)
