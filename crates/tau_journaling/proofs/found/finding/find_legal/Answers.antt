use Rattle.std.proofs.Common.{ℕ, sym, subst, rules}
use Rattle.std.specs.Prelude.{IfSome}
use Rattle.tau_journal.specs.Gates.{gate_of}
use Rattle.tau_journal.specs.Records.{IsAtRest}
use Rattle.tau_run_journal.specs.Standing.{StandsAt}
use Rattle.tau_run_journal.proofs.Answered.{if_ok_then, if_ok_both}
use Rattle.tau_run_journal.proofs.Finds.{stands_told, small_told}
use Rattle.tau_journaling.proofs.Finds.{found_told, bytes_fault, records_fault, bytes_faulty, records_faulty, bytes_number, run_number}
use Rattle.tau_journaling.proofs.found.finding.find_legal.Goals as goal

pub returns-in_err-journal-clause-found : goal.returns-in_err-journal-clause-found
returns-in_err-journal-clause-found g c =
    found_told c.revival_keeps_steps.ensures c.from_residual.result (g.D.Disk.bytes c.args.disk.now) (λ f a is. bytes_fault (g.D.Disk.bytes c.args.disk.now) f a (c.in_err-journal.ensures.fault f a (search rules)))

pub returns-in_err-journal-clause-fault : goal.returns-in_err-journal-clause-fault
returns-in_err-journal-clause-fault g c fault at is = bytes_fault (g.D.Disk.bytes c.args.disk.now) fault at (c.in_err-journal.ensures.fault fault at (search rules))

pub returns-in_err-journal-clause-faulty : goal.returns-in_err-journal-clause-faulty
returns-in_err-journal-clause-faulty g c =
    bytes_faulty c.from_residual.result c.in_err-journal.field-0.0 (search rules) _ (g.D.Disk.bytes c.args.disk.now) (λ f a made. c.in_err-journal.ensures.fault f a (search rules)) c.in_err-journal.ensures.faulty

pub returns-clause-stands : goal.returns-clause-stands
returns-clause-stands g c =
    let told = g.D.Disk.bytes c.args.disk.now in
    let gate = gate_of c.in_ok-journal.journal in
    if_ok_both _ _ _ c.legal_run.result
    (λ f stand same. subst (λ (n : ℕ). IfSome told (λ _. StandsAt told n f.program f.trace.run)) (sym same) (stands_told told c.in_ok-journal.records gate f.program f.trace.run c.in_ok-journal.ensures.found stand))
    c.legal_run.ensures.stand c.legal_run.ensures.journal

pub returns-clause-rest : goal.returns-clause-rest
returns-clause-rest g c =
    if_ok_then _ _ c.legal_run.result
    (λ f same. subst (λ (n : ℕ). IsAtRest (g.D.Disk.bytes c.find.new.disk) (g.D.Disk.images c.find.new.disk) n) (sym same) c.in_ok-journal.ensures.rest) c.legal_run.ensures.journal

pub returns-clause-found : goal.returns-clause-found
returns-clause-found g c =
    let told = g.D.Disk.bytes c.args.disk.now in
    found_told c.revival_keeps_steps.ensures c.legal_run.result told
    (λ f a is. records_fault told c.in_ok-journal.records (gate_of c.in_ok-journal.journal) c.in_ok-journal.ensures.found (small_told _ told c.in_ok-journal.ensures.faulty) f a (c.legal_run.ensures.fault f a is))

pub returns-clause-fault : goal.returns-clause-fault
returns-clause-fault g c fault at is =
    let told = g.D.Disk.bytes c.args.disk.now in
    records_fault told c.in_ok-journal.records (gate_of c.in_ok-journal.journal) c.in_ok-journal.ensures.found (small_told _ told c.in_ok-journal.ensures.faulty) fault at (c.legal_run.ensures.fault fault at is)

pub returns-clause-faulty : goal.returns-clause-faulty
returns-clause-faulty g c =
    let told = g.D.Disk.bytes c.args.disk.now in
    records_faulty c.legal_run.result told c.in_ok-journal.records (gate_of c.in_ok-journal.journal) c.in_ok-journal.ensures.found (small_told _ told c.in_ok-journal.ensures.faulty) c.in_ok-journal.ensures.some c.legal_run.ensures.faulty

pub returns-clause-disk_fault : goal.returns-clause-disk_fault
returns-clause-disk_fault g c is = absurd (c.legal_run.ensures.no_disk is)

pub returns-in_err-journal-clause-among : goal.returns-in_err-journal-clause-among
returns-in_err-journal-clause-among g c fault at is = bytes_number fault (c.in_err-journal.ensures.among fault at (search rules))

pub returns-clause-among : goal.returns-clause-among
returns-clause-among g c fault at is = run_number c.in_ok-journal.records fault at (c.legal_run.ensures.fault fault at is)
