use Rattle.std.proofs.Common.{ap, max}
use Rattle.std.specs.Prelude.{Err}
use Rattle.tau_sexpr.specs.Printing.{printed}
use Rattle.tau_forms.specs.Printed as forms
use Rattle.tau_trace.specs.Run.{len}
use Rattle.tau_cli.specs.Status.{of_journal_error}
use Rattle.tau_cli.specs.declared.statuses.Status.TheVariants.{NoMemory}
use Rattle.tau_cli.specs.Effects.{disk_effect}
use Rattle.tau_cli.proofs.StatusLemmas.{journal_refuses}
use Rattle.tau_cli.proofs.ResumeLemmas.{told_stays, told_leaves, refused, resumes, resumes_not, no_memory, faulty_so, unrevived_so, complete_so}
use Rattle.tau_cli.proofs.resuming.resumed_text.Goals as goal

pub write_run-requires-clause-opening : goal.write_run-requires-clause-opening
write_run-requires-clause-opening g c = c.in_ok-resumed.ensures.resumed.ends.legal.opening

pub write_run-requires-clause-sound : goal.write_run-requires-clause-sound
write_run-requires-clause-sound g c = c.in_ok-resumed.ensures.resumed.sound

pub returns-in_err-resumed : goal.returns-in_err-resumed
returns-in_err-resumed g c =
    let old = c.args.disk.now in
    let new = c.resume_run.new.disk in
    let disk = disk_effect g.D.Disk.bytes g.D.Disk.images g.D.Disk.moment g.D.Disk.left_since g.D.Disk.faults old new in
    let e = c.in_err-resumed.field-0.0 in
    resumes_not disk c.args.jobs c.args.seed c.args.steps c.from_residual.result (of_journal_error e) c.from_residual.ensures.1 (journal_refuses e)
    (refused disk c.args.jobs c.args.seed c.args.steps _ e (λ fault at is. c.in_err-resumed.ensures.fault fault at (ap Err is)) (λ fault at is. c.in_err-resumed.ensures.among fault at (ap Err is)) c.in_err-resumed.ensures.faulty c.in_err-resumed.ensures.unrevived
    (λ fault at other is. let u = c.in_err-resumed.ensures.unwritten fault at other (ap Err is) in (u.same, u.leaves)) (λ is. c.in_err-resumed.ensures.disk_fault (ap Err is)))
    (told_stays disk (faulty_so g.D.Disk.bytes g.D.Disk.images g.D.Disk.moment g.D.Disk.left_since old new (g.D.Disk.bytes old) c.resume_run.ensures.stays_faulty)
    (unrevived_so g.D.Disk.bytes g.D.Disk.images g.D.Disk.moment g.D.Disk.left_since old new (g.D.Disk.bytes old) c.resume_run.ensures.stays_unrevived)
    (complete_so g.D.Disk.bytes g.D.Disk.images g.D.Disk.moment g.D.Disk.left_since old new (g.D.Disk.bytes old) c.resume_run.ensures.stays)) (told_leaves disk c.resume_run.ensures.any_moment)

pub returns-in_err-write_run : goal.returns-in_err-write_run
returns-in_err-write_run g c =
    let old = c.args.disk.now in
    let new = c.resume_run.new.disk in
    let disk = disk_effect g.D.Disk.bytes g.D.Disk.images g.D.Disk.moment g.D.Disk.left_since g.D.Disk.faults old new in
    resumes_not disk c.args.jobs c.args.seed c.args.steps c.from_residual-in_err-write_run.result NoMemory c.from_residual-in_err-write_run.ensures.1 tt (no_memory disk c.args.jobs c.args.seed c.args.steps)
    (told_stays disk (faulty_so g.D.Disk.bytes g.D.Disk.images g.D.Disk.moment g.D.Disk.left_since old new (g.D.Disk.bytes old) c.resume_run.ensures.stays_faulty)
    (unrevived_so g.D.Disk.bytes g.D.Disk.images g.D.Disk.moment g.D.Disk.left_since old new (g.D.Disk.bytes old) c.resume_run.ensures.stays_unrevived)
    (complete_so g.D.Disk.bytes g.D.Disk.images g.D.Disk.moment g.D.Disk.left_since old new (g.D.Disk.bytes old) c.resume_run.ensures.stays)) (told_leaves disk c.resume_run.ensures.any_moment)

pub returns : goal.returns
returns g c =
    let old = c.args.disk.now in
    let new = c.resume_run.new.disk in
    let disk = disk_effect g.D.Disk.bytes g.D.Disk.images g.D.Disk.moment g.D.Disk.left_since g.D.Disk.faults old new in
    let r = c.in_ok-resumed.resumed in
    let found = c.in_ok-resumed.ensures.resumed in
    let told = c.in_ok-write_run.ensures.run (max c.args.steps (len found.run)) (printed (forms.printed r.program)) c.in_ok-write_run.ensures.program found.ends in
    resumes disk _ r c.args.jobs c.args.seed c.args.steps r.program r.ran.trace.run r.ran.is_complete c.in_ok-write_run.field-0 c.in_ok-resumed.ensures.faulty c.in_ok-resumed.ensures.unrevived
    found told.0 told.1 told.2 c.in_ok-resumed.ensures.kept c.in_ok-resumed.ensures.front
    (told_stays disk (faulty_so g.D.Disk.bytes g.D.Disk.images g.D.Disk.moment g.D.Disk.left_since old new (g.D.Disk.bytes old) c.resume_run.ensures.stays_faulty)
    (unrevived_so g.D.Disk.bytes g.D.Disk.images g.D.Disk.moment g.D.Disk.left_since old new (g.D.Disk.bytes old) c.resume_run.ensures.stays_unrevived)
    (complete_so g.D.Disk.bytes g.D.Disk.images g.D.Disk.moment g.D.Disk.left_since old new (g.D.Disk.bytes old) c.resume_run.ensures.stays)) (told_leaves disk c.resume_run.ensures.any_moment)
