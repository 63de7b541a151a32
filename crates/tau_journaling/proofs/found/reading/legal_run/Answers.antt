use Rattle.std.proofs.Common.{ap, rules}
use Rattle.std.specs.Prelude.{Err}
use Rattle.tau_run_journal.proofs.Finds.{all_read, some_read, error_is, no_disk_error}
use Rattle.tau_journaling.specs.Found.Faults.{in_first, in_later}
use Rattle.tau_journaling.proofs.Illegal.{illegal_read, illegal_faulty, legal_faulty, read_faulty, first_faulty, fault_told, no_memory_told, is_legal, is_bad}
use Rattle.tau_journaling.proofs.found.reading.legal_run.Goals as goal

pub check-requires-clause-sound : goal.check-requires-clause-sound
check-requires-clause-sound c = c.in_ok-standing.ensures.run.sound

pub check-requires-clause-opening : goal.check-requires-clause-opening
check-requires-clause-opening c = c.in_ok-standing.ensures.run.opening

pub returns-in_err-standing-clause-fault : goal.returns-in_err-standing-clause-fault
returns-in_err-standing-clause-fault c fault at is =
    let none = c.in_err-standing.ensures.fault fault at (search rules) in
    in_first none.0 none.1 none.2

pub returns-in_err-standing-clause-faulty : goal.returns-in_err-standing-clause-faulty
returns-in_err-standing-clause-faulty c =
    first_faulty c.args.records.now c.from_residual.result c.in_err-standing.field-0.0 (search rules) (λ f a made. c.in_err-standing.ensures.fault f a (search rules))

pub returns-in_err-legality-clause-faulty : goal.returns-in_err-legality-clause-faulty
returns-in_err-legality-clause-faulty c fault at found = no_memory_told c.from_residual-in_err-legality.result c.from_residual-in_err-legality.ensures.1 fault at

pub returns-in-None-clause-stand : goal.returns-in-None-clause-stand
returns-in-None-clause-stand c =
    let s = c.in_ok-standing.standing in
    all_read c.args.records.now s.program s.trace.run s.fault c.in-None.is c.in_ok-standing.ensures.read

pub returns-in-None-clause-legal : goal.returns-in-None-clause-legal
returns-in-None-clause-legal c =
    let s = c.in_ok-standing.standing in
    (is_legal s.program s.trace.run c.in_ok-legality.legality c.in-Legal.complete c.in-Legal.is c.in_ok-legality.ensures).0

pub returns-in-None-clause-complete : goal.returns-in-None-clause-complete
returns-in-None-clause-complete c =
    let s = c.in_ok-standing.standing in
    (is_legal s.program s.trace.run c.in_ok-legality.legality c.in-Legal.complete c.in-Legal.is c.in_ok-legality.ensures).1

pub returns-in-None-clause-faulty : goal.returns-in-None-clause-faulty
returns-in-None-clause-faulty c =
    let s = c.in_ok-standing.standing in
    legal_faulty c.revival_keeps_steps.ensures c.args.records.now s.program s.trace.run (all_read c.args.records.now s.program s.trace.run s.fault c.in-None.is c.in_ok-standing.ensures.read)
    (is_legal s.program s.trace.run c.in_ok-legality.legality c.in-Legal.complete c.in-Legal.is c.in_ok-legality.ensures).0 _

pub returns-in-Some-clause-fault : goal.returns-in-Some-clause-fault
returns-in-Some-clause-fault c fault at is =
    let s = c.in_ok-standing.standing in
    in_later s.program s.trace.run c.in-Some.fault (error_is c.error.result c.in-Some.fault _ c.error.ensures is)
    (is_legal s.program s.trace.run c.in_ok-legality.legality c.in-Legal.complete c.in-Legal.is c.in_ok-legality.ensures).0
    (some_read c.args.records.now s.program s.trace.run s.fault c.in-Some.fault c.in-Some.is c.in_ok-standing.ensures.read)

pub returns-in-Some-clause-faulty : goal.returns-in-Some-clause-faulty
returns-in-Some-clause-faulty c =
    let s = c.in_ok-standing.standing in
    read_faulty c.revival_keeps_steps.ensures c.args.records.now s.program s.trace.run c.in-Some.fault (some_read c.args.records.now s.program s.trace.run s.fault c.in-Some.fault c.in-Some.is c.in_ok-standing.ensures.read)
    (is_legal s.program s.trace.run c.in_ok-legality.legality c.in-Legal.complete c.in-Legal.is c.in_ok-legality.ensures).0 (Err c.error.result) (ap Err c.error.ensures)

pub returns-in-Some-clause-no_disk : goal.returns-in-Some-clause-no_disk
returns-in-Some-clause-no_disk c is = no_disk_error c.in-Some.fault (error_is c.error.result c.in-Some.fault _ c.error.ensures is)

pub returns-in-Bad-clause-fault : goal.returns-in-Bad-clause-fault
returns-in-Bad-clause-fault c fault at is =
    let s = c.in_ok-standing.standing in
    fault_told c.args.records.now c.in-Bad.place fault at is
    (illegal_read c.revival_keeps_steps.ensures c.args.records.now s.program s.trace.run s.fault c.in_ok-standing.ensures.read c.in-Bad.place
    (is_bad s.program s.trace.run c.in_ok-legality.legality c.in-Bad.place c.in-Bad.is c.in_ok-legality.ensures))

pub returns-in-Bad-clause-faulty : goal.returns-in-Bad-clause-faulty
returns-in-Bad-clause-faulty c =
    let s = c.in_ok-standing.standing in
    illegal_faulty c.revival_keeps_steps.ensures c.args.records.now s.program s.trace.run s.fault c.in_ok-standing.ensures.read c.in-Bad.place
    (is_bad s.program s.trace.run c.in_ok-legality.legality c.in-Bad.place c.in-Bad.is c.in_ok-legality.ensures)
