use Rattle.std.proofs.Common.{sym, subst, ◌+◌}
use Rattle.tau_heard.specs.Opened.{AreStartLogs}
use Rattle.tau_heard.proofs.Beginnings.{starts_more}
use Rattle.tau_heard.proofs.opening.start_logs.Goals as goal

pub loop-start-preserved : goal.loop-start-preserved
loop-start-preserved c =
    subst (λ xs. AreStartLogs xs (c.loop-start._start + 1)) (sym c.in_ok-push.ensures.items)
    (starts_more c.loop-start.logs.items c.loop-start._start c.in_ok-opening.field-0 (record { versions = c.in_ok-opening.ensures.versions; takes = c.in_ok-opening.ensures.takes; tells = c.in_ok-opening.ensures.tells }) c.loop-start.invariant)
