use Rattle.std.proofs.Common.{Some, refl}
use Rattle.tau_heard.proofs.Sending.{send_of, send_leads}
use Rattle.tau_heard.proofs.hearing.Hearing.by_send.Goals as goal

pub returns : goal.returns
returns c =
    let kind = send_of c.args.step.now c.args.who c.requires.kind c.requires.by in
    rw c.of.ensures
    (send_leads c.args.self.now c.args.trace.now.run c.args.step.now c.requires.next c.args.who c.requires.by kind.0 kind.1 (record { sender = Some (record { who = c.args.who; version = c.last_number-version.result; numbers = c.args.numbers }); roots = c.in_ok-roots.roots })
    (record { who = c.args.who; version = c.last_number-version.result; numbers = c.args.numbers }) kind.2 refl refl c.last_number-version.ensures c.requires.numbers c.in_ok-roots.ensures)
