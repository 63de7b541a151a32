use Rattle.std.proofs.Common.{ap, arith}
use Rattle.tau_past.specs.Heard.{heard_by}
use Rattle.tau_heard.proofs.Leading.{exists, kept}
use Rattle.tau_heard.proofs.Rooms.{shared_next}
use Rattle.tau_heard.proofs.Sending.{send_of}
use Rattle.tau_heard.proofs.hearing.Hearing.share_and_send.Goals as goal

pub share_numbers-requires : goal.share_numbers-requires
share_numbers-requires c = omega (arith, exists c.args.self.now c.args.trace.now.run c.args.step.now c.requires.next c.args.who c.requires.by, (kept c.args.self.now c.args.trace.now.run c.args.step.now c.requires.next).transactors)

pub returns-in_err-numbers-clause-kept : goal.returns-in_err-numbers-clause-kept
returns-in_err-numbers-clause-kept c =
    let e = c.share_numbers.ensures in
    (shared_next c.args.self.now c.share_numbers.new.self c.args.trace.now.run c.args.step.now c.requires.next (ap heard_by (send_of c.args.step.now c.args.who c.requires.kind c.requires.by).2) e.others.0 e.own e.room e.others.1 e.others.2).knows

pub by_send-requires-clause-next : goal.by_send-requires-clause-next
by_send-requires-clause-next c =
    let e = c.share_numbers.ensures in
    shared_next c.args.self.now c.share_numbers.new.self c.args.trace.now.run c.args.step.now c.requires.next (ap heard_by (send_of c.args.step.now c.args.who c.requires.kind c.requires.by).2) e.others.0 e.own e.room e.others.1 e.others.2

pub returns-clause-kept : goal.returns-clause-kept
returns-clause-kept c =
    let e = c.share_numbers.ensures in
    (shared_next c.args.self.now c.share_numbers.new.self c.args.trace.now.run c.args.step.now c.requires.next (ap heard_by (send_of c.args.step.now c.args.who c.requires.kind c.requires.by).2) e.others.0 e.own e.room e.others.1 e.others.2).knows
