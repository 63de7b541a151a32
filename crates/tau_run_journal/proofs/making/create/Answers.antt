use Rattle.std.proofs.Common.{◌≡◌, ◌+◌, List, ℕ, length, sym, ◌∙◌, subst}
use Rattle.std.specs.Prelude.{IfSome}
use Rattle.tau_sexpr.specs.Printing.{printed}
use Rattle.tau_forms.specs.Printed as forms
use Rattle.tau_journal.specs.Found.{IsCreateFault}
use Rattle.tau_journal.specs.Room.{IsFaultOrFailure}
use Rattle.tau_journal.specs.Gates.{gate_of}
use Rattle.tau_run_journal.specs.Standing.{IsProgramText}
use Rattle.tau_run_journal.proofs.Answered.{if_ok_then}
use Rattle.tau_run_journal.proofs.Kept.{program_stands, nothing_begun, program_begins}
use Rattle.tau_run_journal.proofs.making.create.Goals as goal

pub returns-in_err-text-clause-any_moment : goal.returns-in_err-text-clause-any_moment
returns-in_err-text-clause-any_moment g c =
    nothing_begun g.D.Disk.images g.D.Disk.moment g.D.Disk.left_since c.args.program.now g.met.D.Disk.only_now c.args.disk.now (g.D.Disk.bytes c.args.disk.now)

pub returns-clause-any_moment : goal.returns-clause-any_moment
returns-clause-any_moment g c =
    let P = c.args.program.now in
    let text : IsProgramText P c.deref.result.now = subst (IsProgramText P) (sym c.deref.ensures.value) (record { sound = c.requires; is = c.in_ok-text.ensures.text; read_back = c.in_ok-text.ensures.read_back }) in
    program_begins g.D.Disk.images g.D.Disk.moment g.D.Disk.left_since P c.deref.result.now text c.args.disk.now c.create.new.disk (g.D.Disk.bytes c.args.disk.now) c.create.ensures.any_moment

pub returns-clause-fault : goal.returns-clause-fault
returns-clause-fault g c fault at is =
    let same : c.deref.result.now ≡ printed (forms.printed c.args.program.now) = c.deref.ensures.value ∙ c.in_ok-text.ensures.text in
    subst (λ (l : List ℕ). IfSome (g.D.Disk.bytes c.args.disk.now) (λ file. IsCreateFault (6 + length l) file fault at)) same (c.create.ensures.fault fault at is)

pub returns-clause-faulty : goal.returns-clause-faulty
returns-clause-faulty g c =
    let same : c.deref.result.now ≡ printed (forms.printed c.args.program.now) = c.deref.ensures.value ∙ c.in_ok-text.ensures.text in
    subst (λ (l : List ℕ). IfSome (g.D.Disk.bytes c.args.disk.now) (λ file. (fault at : ℕ) → IsCreateFault (6 + length l) file fault at → IsFaultOrFailure fault at c.create.result)) same c.create.ensures.faulty

pub returns-clause-stands : goal.returns-clause-stands
returns-clause-stands g c =
    let P = c.args.program.now in
    let text : IsProgramText P c.deref.result.now = subst (IsProgramText P) (sym c.deref.ensures.value) (record { sound = c.requires; is = c.in_ok-text.ensures.text; read_back = c.in_ok-text.ensures.read_back }) in
    if_ok_then _ _ c.create.result (λ j made. program_stands (g.D.Disk.bytes c.args.disk.now) (g.D.Disk.bytes c.create.new.disk) (gate_of j) P c.deref.result.now text made) c.create.ensures.created
