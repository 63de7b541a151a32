use Rattle.std.proofs.Common.{List, [], ℕ, Option, IfSome, ◌∙◌, subst}
use Rattle.tau_journal.specs.Disk.Moments.{LeavesOnly}
use Rattle.tau_journal.specs.Records.{TellsRecords}
use Rattle.tau_journal.specs.Found.{IsBlank}
use Rattle.tau_journal.proofs.Blank.{with_told, making_looked, making_sized, making_closed, making_written}
use Rattle.tau_journal.proofs.journal.Journal.create.Goals as goal

pub returns-in_err-size-clause-any_moment : goal.returns-in_err-size-clause-any_moment
returns-in_err-size-clause-any_moment g c =
    making_looked g.D.Disk.images g.D.Disk.moment g.D.Disk.left_since c.args.entry.now c.args.disk.now (g.D.Disk.bytes c.args.disk.now) c.blank_size.new.disk c.blank_size.ensures.untouched

pub returns-in_err-test_room-clause-any_moment : goal.returns-in_err-test_room-clause-any_moment
returns-in_err-test_room-clause-any_moment g c =
    let looked = making_looked g.D.Disk.images g.D.Disk.moment g.D.Disk.left_since c.args.entry.now c.args.disk.now (g.D.Disk.bytes c.args.disk.now) c.blank_size.new.disk c.blank_size.ensures.untouched in
    making_sized g.D.Disk.images g.D.Disk.moment g.D.Disk.left_since c.args.entry.now c.args.disk.now (g.D.Disk.bytes c.args.disk.now) c.blank_size.new.disk c.test_room.new.disk looked c.test_room.ensures.time (λ e now. c.blank_size.ensures.crash e (c.test_room.ensures.crash e now))

pub returns-in_err-close_first-clause-any_moment : goal.returns-in_err-close_first-clause-any_moment
returns-in_err-close_first-clause-any_moment g c =
    let looked = making_looked g.D.Disk.images g.D.Disk.moment g.D.Disk.left_since c.args.entry.now c.args.disk.now (g.D.Disk.bytes c.args.disk.now) c.blank_size.new.disk c.blank_size.ensures.untouched in
    let sized = making_sized g.D.Disk.images g.D.Disk.moment g.D.Disk.left_since c.args.entry.now c.args.disk.now (g.D.Disk.bytes c.args.disk.now) c.blank_size.new.disk c.test_room.new.disk looked c.test_room.ensures.time (λ e now. c.blank_size.ensures.crash e (c.test_room.ensures.crash e now)) in
    making_closed g.D.Disk.images g.D.Disk.moment g.D.Disk.left_since c.args.entry.now c.args.disk.now (g.D.Disk.bytes c.args.disk.now) c.test_room.new.disk c.close_first.new.disk sized
    (subst (λ (o : Option (List ℕ)). IfSome o (λ _. LeavesOnly g.D.Disk.moment g.D.Disk.left_since c.test_room.new.disk c.close_first.new.disk IsBlank)) (c.test_room.ensures.same ∙ c.blank_size.ensures.same) c.close_first.ensures.any_moment)

pub returns-clause-any_moment : goal.returns-clause-any_moment
returns-clause-any_moment g c =
    let looked = making_looked g.D.Disk.images g.D.Disk.moment g.D.Disk.left_since c.args.entry.now c.args.disk.now (g.D.Disk.bytes c.args.disk.now) c.blank_size.new.disk c.blank_size.ensures.untouched in
    let sized = making_sized g.D.Disk.images g.D.Disk.moment g.D.Disk.left_since c.args.entry.now c.args.disk.now (g.D.Disk.bytes c.args.disk.now) c.blank_size.new.disk c.test_room.new.disk looked c.test_room.ensures.time (λ e now. c.blank_size.ensures.crash e (c.test_room.ensures.crash e now)) in
    let closed = making_closed g.D.Disk.images g.D.Disk.moment g.D.Disk.left_since c.args.entry.now c.args.disk.now (g.D.Disk.bytes c.args.disk.now) c.test_room.new.disk c.close_first.new.disk sized
    (subst (λ (o : Option (List ℕ)). IfSome o (λ _. LeavesOnly g.D.Disk.moment g.D.Disk.left_since c.test_room.new.disk c.close_first.new.disk IsBlank)) (c.test_room.ensures.same ∙ c.blank_size.ensures.same) c.close_first.ensures.any_moment) in
    making_written g.D.Disk.images g.D.Disk.moment g.D.Disk.left_since c.args.entry.now c.args.disk.now (g.D.Disk.bytes c.args.disk.now) c.close_first.new.disk c.write_record.new.disk closed
    (with_told (g.D.Disk.bytes c.args.disk.now) (λ told. c.write_record.ensures.any_moment [] told)
    (subst (λ (o : Option (List ℕ)). IfSome o (λ _. TellsRecords (g.D.Disk.bytes c.close_first.new.disk) [] 0)) (c.test_room.ensures.same ∙ c.blank_size.ensures.same) c.in_ok-close_first.ensures.empty))
