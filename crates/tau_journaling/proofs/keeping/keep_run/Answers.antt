use Rattle.std.proofs.Common.{inr, length, IfSome, ◌≤◌, sym, rules}
use Rattle.tau_journal.specs.Disk.Moments.{LeavesOnly}
use Rattle.tau_journal.specs.Found.{IsCreateFault}
use Rattle.tau_journal.specs.Gates.{gate_of}
use Rattle.tau_journal.specs.Room.{most_bytes}
use Rattle.tau_journal.proofs.Blank.{with_told}
use Rattle.tau_run_journal.specs.Standing.{opened, StandsAt}
use Rattle.tau_run_journal.proofs.Answered.{if_ok_then}
use Rattle.tau_journaling.specs.Going.{StandsBetween}
use Rattle.tau_journaling.specs.Kept.{IsKeptOn, StandsForLonger, first_size}
use Rattle.tau_journaling.proofs.Faulted.{of_same, faulty_failed, faulty_never}
use Rattle.tau_book.proofs.Works.{same_after}
use Rattle.tau_journaling.proofs.Ended.{same_no_room, serial_then}
use Rattle.tau_journaling.proofs.KeptRuns.{keeping_begun, keeping_on, front_on, fault_making, fault_keeping, never_held, no_room_serial}
use Rattle.tau_journaling.proofs.keeping.keep_run.Goals as goal

pub returns-in_err-journal-clause-any_moment : goal.returns-in_err-journal-clause-any_moment
returns-in_err-journal-clause-any_moment g c =
    keeping_begun g.D.Disk.images g.D.Disk.moment g.D.Disk.left_since c.args.program.now c.args.disk.now (g.D.Disk.bytes c.args.disk.now) c.create.new.disk c.create.ensures.any_moment

pub returns-in_err-journal-clause-fault : goal.returns-in_err-journal-clause-fault
returns-in_err-journal-clause-fault g c fault at is =
    fault_making c.args.program.now c.args.jobs c.args.seed c.args.limit (g.D.Disk.bytes c.create.new.disk) fault at (g.D.Disk.bytes c.args.disk.now) (c.in_err-journal.ensures.fault fault at (search rules))

pub returns-in_err-journal-clause-faulty : goal.returns-in_err-journal-clause-faulty
returns-in_err-journal-clause-faulty g c =
    faulty_failed (λ file f a. IsCreateFault (first_size c.args.program.now) file f a) c.from_residual.result _ c.in_err-journal.field-0.0 (search rules) (g.D.Disk.bytes c.args.disk.now) c.in_err-journal.ensures.faulty

pub returns-in_err-book-clause-any_moment : goal.returns-in_err-book-clause-any_moment
returns-in_err-book-clause-any_moment g c =
    keeping_begun g.D.Disk.images g.D.Disk.moment g.D.Disk.left_since c.args.program.now c.args.disk.now (g.D.Disk.bytes c.args.disk.now) c.create.new.disk c.create.ensures.any_moment

pub returns-in_err-hand-clause-any_moment : goal.returns-in_err-hand-clause-any_moment
returns-in_err-hand-clause-any_moment g c =
    keeping_begun g.D.Disk.images g.D.Disk.moment g.D.Disk.left_since c.args.program.now c.args.disk.now (g.D.Disk.bytes c.args.disk.now) c.create.new.disk c.create.ensures.any_moment

pub returns-in_err-hand-clause-faulty : goal.returns-in_err-hand-clause-faulty
returns-in_err-hand-clause-faulty g c =
    faulty_never (λ file f a. IsCreateFault (first_size c.args.program.now) file f a) c.from_residual-in_err-hand.result c.in_ok-journal.journal (g.D.Disk.bytes c.args.disk.now) c.in_ok-journal.ensures.faulty

pub returns-clause-serial : goal.returns-clause-serial
returns-clause-serial g c =
    let P = c.args.program.now in
    let begun = c.opened_is_at_work.ensures c.args.seed c.in_ok-book.book c.in_ok-hand.hand (search rules) (search rules) c.in_ok-hand.ensures.generator in
    if_ok_then _ _ c.run_on.result
    (λ r after. serial_then c.run_after_none_is_serial.ensures P c.args.jobs c.args.seed c.args.limit r.trace.run
    (same_after c.in_ok-book.book.system.program P c.in_ok-hand.hand.size c.args.jobs c.args.seed c.in_ok-book.book.limit c.args.limit c.in_ok-book.book.system.run (opened P) r.trace.run
    c.in_ok-book.ensures.program c.in_ok-hand.ensures.size c.in_ok-book.ensures.limit c.in_ok-book.ensures.run (after c.args.seed c.in_ok-book.book.system.run begun))) c.run_on.ensures.after

pub returns-clause-kept : goal.returns-clause-kept
returns-clause-kept g c =
    let bytes = g.D.Disk.bytes c.create.new.disk in
    let gate = gate_of c.in_ok-journal.journal in
    if_ok_then _ _ c.run_on.result
    (λ r kept. with_told (g.D.Disk.bytes c.args.disk.now)
    (λ at. of_same (λ P T. StandsAt bytes gate P T → IfSome bytes (λ file. length file ≤ most_bytes) → IsKeptOn (g.D.Disk.bytes c.run_on.new.disk) (g.D.Disk.images c.run_on.new.disk) P r.trace.run)
    c.in_ok-book.book.system.program c.args.program.now c.in_ok-book.book.system.run (opened c.args.program.now) c.in_ok-book.ensures.program c.in_ok-book.ensures.run kept at c.in_ok-journal.ensures.within)
    c.in_ok-journal.ensures.stands) c.run_on.ensures.kept

pub returns-clause-any_moment : goal.returns-clause-any_moment
returns-clause-any_moment g c =
    let P = c.args.program.now in
    let bytes = g.D.Disk.bytes c.create.new.disk in
    let gate = gate_of c.in_ok-journal.journal in
    keeping_on g.D.Disk.images g.D.Disk.moment g.D.Disk.left_since P c.args.disk.now c.create.new.disk c.run_on.new.disk bytes gate (g.D.Disk.bytes c.args.disk.now) c.create.ensures.any_moment c.in_ok-journal.ensures.stands
    (of_same (λ Q T. StandsAt bytes gate Q T → LeavesOnly g.D.Disk.moment g.D.Disk.left_since c.create.new.disk c.run_on.new.disk (StandsForLonger Q T))
    c.in_ok-book.book.system.program P c.in_ok-book.book.system.run (opened P) c.in_ok-book.ensures.program c.in_ok-book.ensures.run c.run_on.ensures.any_moment)

pub returns-clause-front : goal.returns-clause-front
returns-clause-front g c =
    let P = c.args.program.now in
    let bytes = g.D.Disk.bytes c.create.new.disk in
    let gate = gate_of c.in_ok-journal.journal in
    if_ok_then _ _ c.run_on.result
    (λ r front. front_on g.D.Disk.images g.D.Disk.moment g.D.Disk.left_since P c.args.disk.now c.create.new.disk c.run_on.new.disk bytes gate r.trace.run (g.D.Disk.bytes c.args.disk.now) c.create.ensures.any_moment c.in_ok-journal.ensures.stands
    (of_same (λ Q T. StandsAt bytes gate Q T → LeavesOnly g.D.Disk.moment g.D.Disk.left_since c.create.new.disk c.run_on.new.disk (StandsBetween Q T r.trace.run))
    c.in_ok-book.book.system.program P c.in_ok-book.book.system.run (opened P) c.in_ok-book.ensures.program c.in_ok-book.ensures.run front)) c.run_on.ensures.front

pub returns-clause-fault : goal.returns-clause-fault
returns-clause-fault g c fault at is =
    let P = c.args.program.now in
    let bytes = g.D.Disk.bytes c.create.new.disk in
    let gate = gate_of c.in_ok-journal.journal in
    let after = g.D.Disk.bytes c.run_on.new.disk in
    let begun = c.opened_is_at_work.ensures c.args.seed c.in_ok-book.book c.in_ok-hand.hand (search rules) (search rules) c.in_ok-hand.ensures.generator in
    fault_keeping P c.args.jobs c.args.seed c.args.limit after fault at (g.D.Disk.bytes c.args.disk.now) bytes gate (c.run_on.ensures.fault fault at is) c.in_ok-journal.ensures.stands
    (λ there. no_room_serial c.run_after_none_is_serial.ensures P c.args.jobs c.args.seed c.args.limit after at
    (same_no_room P c.in_ok-book.book.system.program c.in_ok-hand.hand.size c.args.jobs c.args.seed c.in_ok-book.book.limit c.args.limit c.in_ok-book.book.system.run (opened P) after at
    c.in_ok-book.ensures.program c.in_ok-hand.ensures.size c.in_ok-book.ensures.limit c.in_ok-book.ensures.run
    (c.run_on.ensures.full fault at is (of_same (λ Q T. StandsAt bytes gate Q T) _ _ _ _ (sym c.in_ok-book.ensures.program) (sym c.in_ok-book.ensures.run) there) c.args.seed begun)))

pub returns-clause-among : goal.returns-clause-among
returns-clause-among g c fault at is = inr (c.run_on.ensures.fault fault at is)

pub returns-in_err-book-clause-held : goal.returns-in_err-book-clause-held
returns-in_err-book-clause-held g c = never_held c.in_ok-journal.journal _ c.args.program.now (g.D.Disk.bytes c.args.disk.now) c.in_ok-journal.ensures.faulty

pub returns-in_err-hand-clause-held : goal.returns-in_err-hand-clause-held
returns-in_err-hand-clause-held g c = never_held c.in_ok-journal.journal _ c.args.program.now (g.D.Disk.bytes c.args.disk.now) c.in_ok-journal.ensures.faulty

pub returns-clause-held : goal.returns-clause-held
returns-clause-held g c = never_held c.in_ok-journal.journal _ c.args.program.now (g.D.Disk.bytes c.args.disk.now) c.in_ok-journal.ensures.faulty

pub returns-clause-faulty : goal.returns-clause-faulty
returns-clause-faulty g c =
    faulty_never (λ file f a. IsCreateFault (first_size c.args.program.now) file f a) c.run_on.result c.in_ok-journal.journal (g.D.Disk.bytes c.args.disk.now) c.in_ok-journal.ensures.faulty
