use Rattle.std.proofs.Common.{sym}
use Rattle.tau_trace.specs.Run.{len}
use Rattle.tau_verdicts.proofs.Telling.{stable_told, none_exists}
use Rattle.tau_verdicts.proofs.marked.MarkedHearing.is_stable.Goals as goal

pub returns-in-Some : goal.returns-in-Some
returns-in-Some c = λ lt.
    let T = c.args.trace.now.run in
    let h = c.args.self.now.hearing in
    stable_told T (len T) c.args.who h.logs.items h.own.items h.letters.items h.falls c.requires.knows c.in-Some.log.now (sym c.in-Some.ensures) c.is_last_stable.result c.is_last_stable.ensures

pub returns-in-None : goal.returns-in-None
returns-in-None c = λ lt.
    let T = c.args.trace.now.run in
    let h = c.args.self.now.hearing in
    absurd (none_exists T (len T) c.args.who h.logs.items h.own.items h.letters.items h.falls c.requires.knows (sym c.in-None.ensures) lt)
