use Rattle.std.proofs.Common.{rules, sym, subst}
use Rattle.tau_journal.specs.Gates.{gate_of}
use Rattle.tau_journaling.specs.Kept.{IsKeptOn}
use Rattle.tau_book.specs.Alone.{IsRunAfter}
use Rattle.tau_book.proofs.Works.{ends_then, after_then}
use Rattle.tau_journaling.proofs.KeptRuns.{kept_at, leaves_longer, no_room_after}
use Rattle.tau_journaling.proofs.running.run_on.Goals as goal

pub returns-in_err-_journal-clause-any_moment : goal.returns-in_err-_journal-clause-any_moment
returns-in_err-_journal-clause-any_moment g c at =
    let went = c.go_on-gone_on in
    leaves_longer c.args.book went.new.book went.ensures.grows c.system-system.ensures.book c.records_stand_for_runs.ensures c.legality_is_local.ensures g.D.Disk.moment g.D.Disk.left_since c.args.disk.now went.new.disk (went.ensures.any_moment at)

pub returns-in_err-_journal-clause-full : goal.returns-in_err-_journal-clause-full
returns-in_err-_journal-clause-full g c fault size is at seed w =
    let went = c.go_on-gone_on in
    no_room_after c.args.book went.new.book went.ensures.grows c.system-system.ensures.book seed c.args.hand went.new.hand went.ensures.size
    (c.in_err-_journal.ensures.unkept fault size (search rules) seed c.args.book.system.run w) (g.D.Disk.bytes went.new.disk) size (c.in_err-_journal.ensures.full fault size (search rules) at)

pub returns-clause-ends : goal.returns-clause-ends
returns-clause-ends g c =
    let went = c.go_on-gone_on in
    ends_then c.args.book went.new.book went.ensures.grows c.system-system.ensures.book c.in_ok-_journal.ensures.finished c.finished.result c.unwrap_or-is_complete.result c.finished.ensures c.unwrap_or-is_complete.ensures c.into_trace.result.run c.into_trace.ensures.run

pub returns-clause-after : goal.returns-clause-after
returns-clause-after g c seed start w =
    let went = c.go_on-gone_on in
    subst (λ T. IsRunAfter c.args.book.system.program c.args.hand.size seed c.args.book.limit start T) (sym c.into_trace.ensures.run)
    (after_then c.args.book went.new.book went.ensures.grows c.system-system.ensures.book c.in_ok-_journal.ensures.finished seed start c.args.hand.size went.new.hand went.ensures.size (c.in_ok-_journal.ensures.works seed start w))

pub returns-clause-kept : goal.returns-clause-kept
returns-clause-kept g c at small =
    let went = c.go_on-gone_on in
    let P = c.args.book.system.program in
    let stands = c.in_ok-_journal.ensures.stands at in
    subst (λ T. IsKeptOn (g.D.Disk.bytes went.new.disk) (g.D.Disk.images went.new.disk) P T) (sym c.into_trace.ensures.run)
    (kept_at (g.D.Disk.bytes went.new.disk) (g.D.Disk.images went.new.disk) (gate_of c.in_ok-_journal._journal) P went.new.book.system.run c.in_ok-_journal.ensures.rest (c.in_ok-_journal.ensures.within small) stands)

pub returns-clause-any_moment : goal.returns-clause-any_moment
returns-clause-any_moment g c at =
    let went = c.go_on-gone_on in
    leaves_longer c.args.book went.new.book went.ensures.grows c.system-system.ensures.book c.records_stand_for_runs.ensures c.legality_is_local.ensures g.D.Disk.moment g.D.Disk.left_since c.args.disk.now went.new.disk (went.ensures.any_moment at)
