use Rattle.tau_trace.specs.Run.{len, appended}
use Rattle.tau_versions.specs.Search.Numbered.{with_version}
use Rattle.tau_versions.proofs.Deciding.{numbers_together}
use Rattle.tau_heard.proofs.Leading.{kept}
use Rattle.tau_heard.proofs.hearing.Hearing.heard_together.Goals as goal

pub returns : goal.returns
returns c =
    let U = appended c.args.trace.now.run c.args.step.now in
    let n = len c.args.trace.now.run in
    let logs = c.args.self.now.logs.items in
    let x = (kept c.args.self.now c.args.trace.now.run c.args.step.now c.requires.next).letter c.args.message c.letter-letter.result.now c.letter-letter.ensures in
    numbers_together U c.args.who n c.args.message logs (with_version c.heard_before-own.result.who c.heard_before-own.result.version c.heard_before-own.result.numbers.now)
    (with_version c.heard_by.result.who c.heard_by.result.version c.heard_by.result.numbers.now) c.heard_before-own.ensures (c.heard_by.ensures U c.args.message n logs x.heard)
