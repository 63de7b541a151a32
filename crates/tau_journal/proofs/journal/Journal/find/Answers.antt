use Rattle.std.proofs.Common.{inl, inr, rules}
use Rattle.tau_journal.specs.Found.{IsBlank}
use Rattle.tau_journal.proofs.Reading.{full_fault, faulty_full, faulty_damaged, faulty_none, begins_open}
use Rattle.tau_journal.proofs.journal.Journal.find.Goals as goal

pub returns-in_err-bytes-clause-fault : goal.returns-in_err-bytes-clause-fault
returns-in_err-bytes-clause-fault g c fault at is = full_fault (g.D.Disk.bytes c.args.disk.now) fault at (c.in_err-bytes.ensures.full fault at (search rules))

pub returns-in_err-bytes-clause-faulty : goal.returns-in_err-bytes-clause-faulty
returns-in_err-bytes-clause-faulty g c =
    faulty_full c.from_residual.result (g.D.Disk.bytes c.args.disk.now) c.in_err-bytes.field-0.0 (search rules) (λ f a made. c.in_err-bytes.ensures.full f a (search rules))

pub returns-in_err-records-clause-faulty : goal.returns-in_err-records-clause-faulty
returns-in_err-records-clause-faulty g c =
    let begins : ¬ IsBlank c.in_ok-bytes.bytes.items = begins_open c.in_ok-bytes.bytes.items c.index.result.now (search rules) c.index.ensures (search rules) in
    faulty_damaged c.from_residual-in_err-records.result (g.D.Disk.bytes c.args.disk.now) c.in_ok-bytes.bytes.items c.in_ok-bytes.ensures.read c.in_ok-bytes.ensures.small begins c.in_err-records.field-0.0 (search rules)
    (λ f a made. c.in_err-records.ensures.damaged f a (search rules))

pub returns-clause-faulty : goal.returns-clause-faulty
returns-clause-faulty g c =
    let begins : ¬ IsBlank c.in_ok-bytes.bytes.items = begins_open c.in_ok-bytes.bytes.items c.index.result.now (search rules) c.index.ensures (search rules) in
    faulty_none _ (g.D.Disk.bytes c.args.disk.now) c.in_ok-bytes.bytes.items c.in_ok-bytes.ensures.read c.in_ok-bytes.ensures.small begins c.in_ok-records.records c.in_ok-records.gate c.in_ok-records.ensures.records

pub returns-in_err-bytes-clause-among : goal.returns-in_err-bytes-clause-among
returns-in_err-bytes-clause-among g c fault at is = inr (inr (c.in_err-bytes.ensures.full fault at (search rules)).0)

pub returns-in_err-records-clause-among : goal.returns-in_err-records-clause-among
returns-in_err-records-clause-among g c fault at is = inr (inl (c.in_err-records.ensures.damaged fault at (search rules)).0)
