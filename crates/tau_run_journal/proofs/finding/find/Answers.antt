use Rattle.std.proofs.Common.{inl, ℕ, ap, arith, rules}
use Rattle.std.specs.Prelude.{Err}
use Rattle.tau_journal.specs.Gates.{gate_of}
use Rattle.tau_run_journal.specs.Reading.{in_first, in_later}
use Rattle.tau_run_journal.proofs.Finds.{stands_told, small_told, bytes_found, bytes_faulty, bytes_fault, nothing_told, records_fault, records_faulty, records_found, first_faulty, first_found, all_faulty, some_faulty_read, none_stand, all_read, some_read, error_is, no_disk_error, first_number, later_number}
use Rattle.tau_run_journal.proofs.finding.find.Goals as goal

pub returns-in_err-journal-clause-found : goal.returns-in_err-journal-clause-found
returns-in_err-journal-clause-found g c =
    bytes_found c.from_residual.result c.in_err-journal.field-0.0 (search rules) (g.D.Disk.bytes c.args.disk.now) (λ f a made. c.in_err-journal.ensures.fault f a (search rules))

pub returns-in_err-journal-clause-fault : goal.returns-in_err-journal-clause-fault
returns-in_err-journal-clause-fault g c fault at is = bytes_fault (g.D.Disk.bytes c.args.disk.now) fault at (c.in_err-journal.ensures.fault fault at (search rules))

pub returns-in_err-journal-clause-faulty : goal.returns-in_err-journal-clause-faulty
returns-in_err-journal-clause-faulty g c =
    bytes_faulty c.from_residual.result c.in_err-journal.field-0.0 (search rules) _ (g.D.Disk.bytes c.args.disk.now) (λ f a made. c.in_err-journal.ensures.fault f a (search rules)) c.in_err-journal.ensures.faulty

pub returns-in_err-standing-clause-found : goal.returns-in_err-standing-clause-found
returns-in_err-standing-clause-found g c =
    records_found c.from_residual-in_err-standing.result (g.D.Disk.bytes c.args.disk.now) c.in_ok-journal.records (gate_of c.in_ok-journal.journal) c.in_ok-journal.ensures.found
    (first_found c.in_ok-journal.records c.from_residual-in_err-standing.result c.in_err-standing.field-0.0 (search rules) (λ f a made. c.in_err-standing.ensures.fault f a (search rules)))

pub returns-in_err-standing-clause-fault : goal.returns-in_err-standing-clause-fault
returns-in_err-standing-clause-fault g c fault at is =
    let told = g.D.Disk.bytes c.args.disk.now in
    let none = c.in_err-standing.ensures.fault fault at (search rules) in
    records_fault told c.in_ok-journal.records (gate_of c.in_ok-journal.journal) c.in_ok-journal.ensures.found (small_told _ told c.in_ok-journal.ensures.faulty) fault at (in_first none.0 none.1 none.2)

pub returns-in_err-standing-clause-faulty : goal.returns-in_err-standing-clause-faulty
returns-in_err-standing-clause-faulty g c =
    let told = g.D.Disk.bytes c.args.disk.now in
    records_faulty c.from_residual-in_err-standing.result told c.in_ok-journal.records (gate_of c.in_ok-journal.journal) c.in_ok-journal.ensures.found (small_told _ told c.in_ok-journal.ensures.faulty) c.in_ok-journal.ensures.some
    (first_faulty c.in_ok-journal.records c.from_residual-in_err-standing.result c.in_err-standing.field-0.0 (search rules) (λ f a made. c.in_err-standing.ensures.fault f a (search rules)))

pub returns-in-None-clause-stands : goal.returns-in-None-clause-stands
returns-in-None-clause-stands g c =
    let s = c.in_ok-standing.standing in
    stands_told (g.D.Disk.bytes c.args.disk.now) c.in_ok-journal.records (gate_of c.in_ok-journal.journal) s.program s.trace.run c.in_ok-journal.ensures.found (all_read c.in_ok-journal.records s.program s.trace.run s.fault c.in-None.is c.in_ok-standing.ensures.read)

pub returns-in-None-clause-found : goal.returns-in-None-clause-found
returns-in-None-clause-found g c = nothing_told (g.D.Disk.bytes c.args.disk.now)

pub returns-in-None-clause-faulty : goal.returns-in-None-clause-faulty
returns-in-None-clause-faulty g c =
    let told = g.D.Disk.bytes c.args.disk.now in
    let s = c.in_ok-standing.standing in
    records_faulty _ told c.in_ok-journal.records (gate_of c.in_ok-journal.journal) c.in_ok-journal.ensures.found (small_told _ told c.in_ok-journal.ensures.faulty) c.in_ok-journal.ensures.some
    (all_faulty c.in_ok-journal.records _ s.program s.trace.run (all_read c.in_ok-journal.records s.program s.trace.run s.fault c.in-None.is c.in_ok-standing.ensures.read))

pub returns-clause-found : goal.returns-clause-found
returns-clause-found g c =
    let s = c.in_ok-standing.standing in
    records_found {X = ℕ} (Err c.error.result) (g.D.Disk.bytes c.args.disk.now) c.in_ok-journal.records (gate_of c.in_ok-journal.journal) c.in_ok-journal.ensures.found
    (none_stand {X = ℕ} c.in_ok-journal.records (Err c.error.result) s.program s.trace.run c.in-Some.fault (some_read c.in_ok-journal.records s.program s.trace.run s.fault c.in-Some.fault c.in-Some.is c.in_ok-standing.ensures.read))

pub returns-clause-fault : goal.returns-clause-fault
returns-clause-fault g c fault at is =
    let told = g.D.Disk.bytes c.args.disk.now in
    let s = c.in_ok-standing.standing in
    records_fault told c.in_ok-journal.records (gate_of c.in_ok-journal.journal) c.in_ok-journal.ensures.found (small_told _ told c.in_ok-journal.ensures.faulty) fault at
    (in_later s.program s.trace.run c.in-Some.fault (error_is c.error.result c.in-Some.fault _ c.error.ensures is) (some_read c.in_ok-journal.records s.program s.trace.run s.fault c.in-Some.fault c.in-Some.is c.in_ok-standing.ensures.read))

pub returns-clause-faulty : goal.returns-clause-faulty
returns-clause-faulty g c =
    let told = g.D.Disk.bytes c.args.disk.now in
    let s = c.in_ok-standing.standing in
    records_faulty (Err c.error.result) told c.in_ok-journal.records (gate_of c.in_ok-journal.journal) c.in_ok-journal.ensures.found (small_told _ told c.in_ok-journal.ensures.faulty) c.in_ok-journal.ensures.some
    (some_faulty_read c.in_ok-journal.records (Err c.error.result) s.program s.trace.run c.in-Some.fault (some_read c.in_ok-journal.records s.program s.trace.run s.fault c.in-Some.fault c.in-Some.is c.in_ok-standing.ensures.read) (ap Err c.error.ensures))

pub returns-clause-disk_fault : goal.returns-clause-disk_fault
returns-clause-disk_fault g c is = absurd (no_disk_error c.in-Some.fault (error_is c.error.result c.in-Some.fault _ c.error.ensures is))

pub returns-in_err-journal-clause-among : goal.returns-in_err-journal-clause-among
returns-in_err-journal-clause-among g c fault at is = first_number fault (c.in_err-journal.ensures.among fault at (search rules))

pub returns-in_err-standing-clause-among : goal.returns-in_err-standing-clause-among
returns-in_err-standing-clause-among g c fault at is = let none = c.in_err-standing.ensures.fault fault at (search rules) in inl (omega (arith, none.0), omega (arith, none.0))

pub returns-clause-among : goal.returns-clause-among
returns-clause-among g c fault at is = later_number c.in-Some.fault fault at (error_is c.error.result c.in-Some.fault _ c.error.ensures is)
