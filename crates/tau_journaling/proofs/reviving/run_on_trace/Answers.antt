use Rattle.std.proofs.Common.{◌≤◌, length, sym, ◌∙◌, subst, arith}
use Rattle.std.specs.Prelude.{IfOk, IfSome}
use Rattle.tau_trace.specs.Run.{Run}
use Rattle.tau_journal.specs.Disk.Moments.{LeavesOnly}
use Rattle.tau_journal.specs.Gates.{gate_of}
use Rattle.tau_journal.specs.Room.{most_bytes}
use Rattle.tau_book.specs.Onward.{BeginsWith}
use Rattle.tau_run_journal.specs.Standing.{StandsAt}
use Rattle.tau_run_journal.proofs.Answered.{if_ok_then}
use Rattle.tau_journaling.specs.Going.{StandsBetween}
use Rattle.tau_journaling.specs.Kept.{IsKeptOn}
use Rattle.tau_journaling.proofs.Faulted.{of_same}
use Rattle.tau_book.proofs.Works.{same_after}
use Rattle.tau_journaling.proofs.Ended.{adopted_program, adopted_run, adopted_limit, same_no_room}
use Rattle.tau_journaling.proofs.reviving.run_on_trace.Goals as goal

pub run_on-requires-clause-jobs : goal.run_on-requires-clause-jobs
run_on-requires-clause-jobs g c =
    c.adopted_has_all_jobs.ensures c.in_ok-book.book c.adopt.new.self c.in_ok-hand.hand c.in_ok-adopt.field-0 c.in_ok-book.ensures.store c.in_ok-adopt.ensures.ok
    (record { some = omega (arith, c.in_ok-hand.ensures.size, c.requires.some); none = c.in_ok-hand.ensures.jobs })

pub returns-clause-begins : goal.returns-clause-begins
returns-clause-begins g c =
    let run = adopted_run c.in_ok-book.book c.adopt.new.self c.in_ok-adopt.field-0 c.in_ok-adopt.ensures.ok ∙ c.in_ok-book.ensures.run in
    subst (λ (T : Run). IfOk c.run_on.result (λ r. BeginsWith T r.trace.run)) run c.run_on.ensures.begins

pub returns-clause-kept : goal.returns-clause-kept
returns-clause-kept g c =
    let program = adopted_program c.in_ok-book.book c.adopt.new.self c.in_ok-adopt.field-0 c.in_ok-adopt.ensures.ok ∙ c.in_ok-book.ensures.program in
    let run = adopted_run c.in_ok-book.book c.adopt.new.self c.in_ok-adopt.field-0 c.in_ok-adopt.ensures.ok ∙ c.in_ok-book.ensures.run in
    of_same (λ P T. IfOk c.run_on.result (λ r. StandsAt (g.D.Disk.bytes c.args.disk.now) (gate_of c.args.journal) P T
    → IfSome (g.D.Disk.bytes c.args.disk.now) (λ file. length file ≤ most_bytes) → IsKeptOn (g.D.Disk.bytes c.run_on.new.disk) (g.D.Disk.images c.run_on.new.disk) P r.trace.run))
    _ _ _ _ program run c.run_on.ensures.kept

pub returns-clause-front : goal.returns-clause-front
returns-clause-front g c =
    let program = adopted_program c.in_ok-book.book c.adopt.new.self c.in_ok-adopt.field-0 c.in_ok-adopt.ensures.ok ∙ c.in_ok-book.ensures.program in
    let run = adopted_run c.in_ok-book.book c.adopt.new.self c.in_ok-adopt.field-0 c.in_ok-adopt.ensures.ok ∙ c.in_ok-book.ensures.run in
    of_same (λ P T. IfOk c.run_on.result (λ r. StandsAt (g.D.Disk.bytes c.args.disk.now) (gate_of c.args.journal) P T
    → LeavesOnly g.D.Disk.moment g.D.Disk.left_since c.args.disk.now c.run_on.new.disk (StandsBetween P T r.trace.run)))
    _ _ _ _ program run c.run_on.ensures.front

pub returns-clause-after : goal.returns-clause-after
returns-clause-after g c =
    let program = adopted_program c.in_ok-book.book c.adopt.new.self c.in_ok-adopt.field-0 c.in_ok-adopt.ensures.ok ∙ c.in_ok-book.ensures.program in
    let run = adopted_run c.in_ok-book.book c.adopt.new.self c.in_ok-adopt.field-0 c.in_ok-adopt.ensures.ok ∙ c.in_ok-book.ensures.run in
    let most = adopted_limit c.in_ok-book.book c.adopt.new.self c.in_ok-adopt.field-0 c.in_ok-adopt.ensures.ok ∙ c.in_ok-book.ensures.limit in
    let begun = c.adopted_is_at_work.ensures c.args.seed c.in_ok-book.book c.adopt.new.self c.in_ok-hand.hand c.in_ok-adopt.field-0 c.in_ok-book.ensures.store c.in_ok-adopt.ensures.ok
    (record { some = omega (arith, c.in_ok-hand.ensures.size, c.requires.some); none = c.in_ok-hand.ensures.jobs }) c.in_ok-hand.ensures.generator in
    if_ok_then _ _ c.run_on.result
    (λ r after. same_after c.adopt.new.self.system.program c.args.program.now c.in_ok-hand.hand.size c.args.jobs c.args.seed c.adopt.new.self.limit c.args.limit c.adopt.new.self.system.run c.args.trace.now.run r.trace.run
    program c.in_ok-hand.ensures.size most run (after c.args.seed c.adopt.new.self.system.run begun)) c.run_on.ensures.after

pub returns-clause-full : goal.returns-clause-full
returns-clause-full g c fault at is stands =
    let program = adopted_program c.in_ok-book.book c.adopt.new.self c.in_ok-adopt.field-0 c.in_ok-adopt.ensures.ok ∙ c.in_ok-book.ensures.program in
    let run = adopted_run c.in_ok-book.book c.adopt.new.self c.in_ok-adopt.field-0 c.in_ok-adopt.ensures.ok ∙ c.in_ok-book.ensures.run in
    let most = adopted_limit c.in_ok-book.book c.adopt.new.self c.in_ok-adopt.field-0 c.in_ok-adopt.ensures.ok ∙ c.in_ok-book.ensures.limit in
    let begun = c.adopted_is_at_work.ensures c.args.seed c.in_ok-book.book c.adopt.new.self c.in_ok-hand.hand c.in_ok-adopt.field-0 c.in_ok-book.ensures.store c.in_ok-adopt.ensures.ok
    (record { some = omega (arith, c.in_ok-hand.ensures.size, c.requires.some); none = c.in_ok-hand.ensures.jobs }) c.in_ok-hand.ensures.generator in
    let there = of_same (λ P T. StandsAt (g.D.Disk.bytes c.args.disk.now) (gate_of c.args.journal) P T) _ _ _ _ (sym program) (sym run) stands in
    same_no_room c.args.program.now c.adopt.new.self.system.program c.in_ok-hand.hand.size c.args.jobs c.args.seed c.adopt.new.self.limit c.args.limit c.adopt.new.self.system.run c.args.trace.now.run (g.D.Disk.bytes c.run_on.new.disk) at
    program c.in_ok-hand.ensures.size most run (c.run_on.ensures.full fault at is there c.args.seed begun)
