use Rattle.std.proofs.Common.{◌≤◌, length, refl, ap, subst, rules}
use Rattle.std.specs.Prelude.{Err}
use Rattle.tau_text.specs.Errors.{TellsInputFault}
use Rattle.tau_text.specs.Faults.{IsProgramFault}
use Rattle.tau_text.specs.Meaning.{IsProgram}
use Rattle.tau_output.specs.Faults.{input_limit}
use Rattle.tau_cli.specs.Status.{of_read_error, of_input_error, of_journal_error}
use Rattle.tau_cli.specs.Effects.{effect_on, disk_effect}
use Rattle.tau_cli.specs.declared.statuses.Status.TheVariants.{NoMemory}
use Rattle.tau_cli.proofs.StatusLemmas.{journal_refuses, resume_keeps}
use Rattle.tau_cli.proofs.KeepLemmas.{unread, misspelled, weaker_leaves, unkept, keeps, keeps_not, no_memory, read_refuses, program_refuses, blank_still, held_still, held_so, unwritten_so}
use Rattle.tau_cli.proofs.keeping.kept_text.Goals as goal

pub write_run-requires-clause-opening : goal.write_run-requires-clause-opening
write_run-requires-clause-opening g c = c.in_ok-ran.ensures.ends.legal.opening

pub returns-in_err-bytes : goal.returns-in_err-bytes
returns-in_err-bytes g c =
    let source = effect_on g.I.Source.left g.I.Source.faults c.args.input.now c.read_input.new.input in
    let still = c.args.disk.now in
    let disk = disk_effect g.D.Disk.bytes g.D.Disk.images g.D.Disk.moment g.D.Disk.left_since g.D.Disk.faults still still in
    let e = c.in_err-bytes.field-0.0 in
    keeps_not c.args.jobs c.args.seed c.args.steps source disk c.from_residual.result (of_read_error e) c.from_residual.ensures.1 (read_refuses e)
    (unread c.args.jobs c.args.seed c.args.steps source disk e (λ is. c.in_err-bytes.ensures.fault (ap Err is)) (λ is. c.in_err-bytes.ensures.too_long (ap Err is)) refl)
    (blank_still g.D.Disk.images g.D.Disk.moment g.D.Disk.left_since g.met.D.Disk.only_now still source.before (g.D.Disk.bytes still))
    (held_still g.D.Disk.images g.D.Disk.moment g.D.Disk.left_since g.met.D.Disk.only_now still (g.D.Disk.bytes still))

pub returns-in_err-program : goal.returns-in_err-program
returns-in_err-program g c =
    let source = effect_on g.I.Source.left g.I.Source.faults c.args.input.now c.read_input.new.input in
    let still = c.args.disk.now in
    let disk = disk_effect g.D.Disk.bytes g.D.Disk.images g.D.Disk.moment g.D.Disk.left_since g.D.Disk.faults still still in
    let e = c.in_err-program.field-0.0 in
    let bytes = c.in_ok-bytes.bytes.items in
    let few : length bytes ≤ input_limit = search rules in
    keeps_not c.args.jobs c.args.seed c.args.steps source disk c.from_residual-in_err-program.result (of_input_error e) c.from_residual-in_err-program.ensures.1 (program_refuses e)
    (misspelled c.args.jobs c.args.seed c.args.steps source disk bytes c.in_ok-bytes.ensures.all few e
    (subst (λ b. TellsInputFault (IsProgramFault b) e) c.deref.ensures.value c.in_err-program.ensures.fault) refl)
    (blank_still g.D.Disk.images g.D.Disk.moment g.D.Disk.left_since g.met.D.Disk.only_now still source.before (g.D.Disk.bytes still))
    (held_still g.D.Disk.images g.D.Disk.moment g.D.Disk.left_since g.met.D.Disk.only_now still (g.D.Disk.bytes still))

pub returns-in_err-ran : goal.returns-in_err-ran
returns-in_err-ran g c =
    let source = effect_on g.I.Source.left g.I.Source.faults c.args.input.now c.read_input.new.input in
    let old = c.args.disk.now in
    let new = c.keep_run.new.disk in
    let disk = disk_effect g.D.Disk.bytes g.D.Disk.images g.D.Disk.moment g.D.Disk.left_since g.D.Disk.faults old new in
    let e = c.in_err-ran.field-0.0 in
    let bytes = c.in_ok-bytes.bytes.items in
    let few : length bytes ≤ input_limit = search rules in
    let P = c.in_ok-program.program in
    let spelled = subst (λ b. IsProgram b P) c.deref.ensures.value c.in_ok-program.ensures.program in
    keeps_not c.args.jobs c.args.seed c.args.steps source disk c.from_residual-in_err-ran.result (of_journal_error e) c.from_residual-in_err-ran.ensures.1 (resume_keeps (of_journal_error e) (journal_refuses e))
    (unkept c.args.jobs c.args.seed c.args.steps source disk bytes c.in_ok-bytes.ensures.all few P spelled _ e
    (λ fault at is. c.in_err-ran.ensures.fault fault at (ap Err is)) c.in_err-ran.ensures.faulty (λ fault at is. c.in_err-ran.ensures.among fault at (ap Err is))
    (λ at is. unwritten_so g.D.Disk.bytes g.D.Disk.images g.D.Disk.moment g.D.Disk.left_since old new (c.in_err-ran.ensures.unwritten at (ap Err is))) (λ is. c.in_err-ran.ensures.disk_fault (ap Err is)))
    (weaker_leaves c.args.jobs c.args.seed c.args.steps source disk bytes c.in_ok-bytes.ensures.all few P spelled
    g.D.Disk.images g.D.Disk.moment g.D.Disk.left_since old new (g.D.Disk.bytes old) c.keep_run.ensures.any_moment)
    (held_so g.D.Disk.bytes g.D.Disk.images g.D.Disk.moment g.D.Disk.left_since old new (g.D.Disk.bytes old) c.keep_run.ensures.held)

pub returns-in_err-write_run : goal.returns-in_err-write_run
returns-in_err-write_run g c =
    let source = effect_on g.I.Source.left g.I.Source.faults c.args.input.now c.read_input.new.input in
    let old = c.args.disk.now in
    let new = c.keep_run.new.disk in
    let disk = disk_effect g.D.Disk.bytes g.D.Disk.images g.D.Disk.moment g.D.Disk.left_since g.D.Disk.faults old new in
    let bytes = c.in_ok-bytes.bytes.items in
    let few : length bytes ≤ input_limit = search rules in
    let P = c.in_ok-program.program in
    let spelled = subst (λ b. IsProgram b P) c.deref.ensures.value c.in_ok-program.ensures.program in
    keeps_not c.args.jobs c.args.seed c.args.steps source disk c.from_residual-in_err-write_run.result NoMemory c.from_residual-in_err-write_run.ensures.1 tt
    (no_memory c.args.jobs c.args.seed c.args.steps source disk)
    (weaker_leaves c.args.jobs c.args.seed c.args.steps source disk bytes c.in_ok-bytes.ensures.all few P spelled
    g.D.Disk.images g.D.Disk.moment g.D.Disk.left_since old new (g.D.Disk.bytes old) c.keep_run.ensures.any_moment)
    (held_so g.D.Disk.bytes g.D.Disk.images g.D.Disk.moment g.D.Disk.left_since old new (g.D.Disk.bytes old) c.keep_run.ensures.held)

pub returns : goal.returns
returns g c =
    let source = effect_on g.I.Source.left g.I.Source.faults c.args.input.now c.read_input.new.input in
    let old = c.args.disk.now in
    let new = c.keep_run.new.disk in
    let disk = disk_effect g.D.Disk.bytes g.D.Disk.images g.D.Disk.moment g.D.Disk.left_since g.D.Disk.faults old new in
    let bytes = c.in_ok-bytes.bytes.items in
    let few : length bytes ≤ input_limit = search rules in
    let P = c.in_ok-program.program in
    let ran = c.in_ok-ran.ran in
    let spelled = subst (λ b. IsProgram b P) c.deref.ensures.value c.in_ok-program.ensures.program in
    let told = c.in_ok-write_run.ensures.run c.args.steps bytes spelled c.in_ok-ran.ensures.ends in
    keeps c.args.jobs c.args.seed c.args.steps source disk bytes c.in_ok-bytes.ensures.all few P spelled
    _ ran ran.trace.run c.in_ok-write_run.field-0 c.in_ok-ran.ensures.faulty c.in_ok-ran.ensures.serial told.0 told.1 told.2 c.in_ok-ran.ensures.kept c.in_ok-ran.ensures.front
    (weaker_leaves c.args.jobs c.args.seed c.args.steps source disk bytes c.in_ok-bytes.ensures.all few P spelled
    g.D.Disk.images g.D.Disk.moment g.D.Disk.left_since old new (g.D.Disk.bytes old) c.keep_run.ensures.any_moment)
    (held_so g.D.Disk.bytes g.D.Disk.images g.D.Disk.moment g.D.Disk.left_since old new (g.D.Disk.bytes old) c.keep_run.ensures.held)
