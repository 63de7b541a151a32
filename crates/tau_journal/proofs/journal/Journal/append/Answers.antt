use Rattle.std.proofs.Common.{ℕ, List, Option, sym, subst}
use Rattle.tau_journal.proofs.Moments.{joined}
use Rattle.tau_journal.specs.Records.{TellsRecords, IsBeforeOrAfter}
use Rattle.tau_journal.proofs.Appending.{looked, no_fault_told, room_told, is_no_fault}
use Rattle.tau_journal.proofs.journal.Journal.append.Goals as goal

pub returns-in_err-test_room-clause-any_moment : goal.returns-in_err-test_room-clause-any_moment
returns-in_err-test_room-clause-any_moment g c rs told =
    let start = looked g.D.Disk.bytes g.D.Disk.images g.D.Disk.moment g.D.Disk.left_since g.met.D.Disk.only_now c.args.self.gate c.args.entry.now rs c.args.disk.now told c.requires c.test_room.new.disk c.test_room.ensures.time c.test_room.ensures.crash in
    start.0

pub returns-clause-any_moment : goal.returns-clause-any_moment
returns-clause-any_moment g c rs told =
    let start = looked g.D.Disk.bytes g.D.Disk.images g.D.Disk.moment g.D.Disk.left_since g.met.D.Disk.only_now c.args.self.gate c.args.entry.now rs c.args.disk.now told c.requires c.test_room.new.disk c.test_room.ensures.time c.test_room.ensures.crash in
    joined g.D.Disk.moment g.D.Disk.left_since c.args.disk.now c.test_room.new.disk c.write_record.new.disk (IsBeforeOrAfter rs c.args.entry.now) start.0
    (c.write_record.ensures.any_moment rs (subst (λ (o : Option (List ℕ)). TellsRecords o rs c.args.self.gate) (sym c.test_room.ensures.same) told))

pub returns-clause-fault : goal.returns-clause-fault
returns-clause-fault g c = no_fault_told _ (g.D.Disk.bytes c.args.disk.now) c.write_record.result c.write_record.ensures.no_fault

pub returns-clause-faulty : goal.returns-clause-faulty
returns-clause-faulty g c = room_told _ (g.D.Disk.bytes c.args.disk.now) c.write_record.result c.in_ok-test_room.ensures.room

pub returns-clause-unwritten : goal.returns-clause-unwritten
returns-clause-unwritten g c fault at found = absurd (is_no_fault c.write_record.result fault at c.write_record.ensures.no_fault found)
