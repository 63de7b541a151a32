use Rattle.std.proofs.Common.{sym, subst}
use Rattle.tau_trace.specs.Run.{Run}
use Rattle.tau_book.specs.Alone.{IsRunAfter}
use Rattle.tau_book.proofs.Works.{ends_then}
use Rattle.tau_workers.proofs.alone.finish.Goals as goal

pub returns-clause-ends : goal.returns-clause-ends
returns-clause-ends c =
    let e = c.in_ok-go_on.ensures in
    ends_then c.args.book c.go_on.new.book e.grows c.system-system.ensures.book e.over c.finished.result c.unwrap_or-is_complete.result c.finished.ensures c.unwrap_or-is_complete.ensures c.into_trace.result.run c.into_trace.ensures.run

pub returns-clause-after : goal.returns-clause-after
returns-clause-after c = λ incomplete below.
    subst (λ (T : Run). IsRunAfter c.args.book.system.program c.args.jobs c.args.seed c.args.book.limit c.args.book.system.run T) (sym c.into_trace.ensures.run)
    (c.in_ok-go_on.ensures.after incomplete below)
