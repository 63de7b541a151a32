use Rattle.std.proofs.Common.{◌≡◌, ◌+◌, inl, inr, length, sym, subst, rules}
use Rattle.std.specs.Prelude.{Err}
use Rattle.tau_journal.specs.Records.{going_on}
use Rattle.tau_journal.specs.Room.{IsTooLarge, IsUnlessSmall}
use Rattle.tau_journal.specs.Gates.{gate_of}
use Rattle.tau_journal.specs.declared.errors.JournalError.TheVariants.{Fault}
use Rattle.tau_journaling.proofs.Marks.{has_room, leaves_itself, leaves_revival, told_again, unless_failed, unless_kept, unless_revived}
use Rattle.tau_journaling.proofs.found.reviving.revive.Goals as goal

pub returns-in_err-revived-clause-any_moment : goal.returns-in_err-revived-clause-any_moment
returns-in_err-revived-clause-any_moment g c at =
    leaves_itself g.D.Disk.images g.D.Disk.moment g.D.Disk.left_since c.args.program.now c.args.trace.now.run g.met.D.Disk.only_now c.args.disk.now (g.D.Disk.bytes c.args.disk.now) (gate_of c.args.journal) at c.requires.rest

pub returns-in_err-revived-clause-fault : goal.returns-in_err-revived-clause-fault
returns-in_err-revived-clause-fault g c fault at is = inl (c.in_err-revived.ensures.fault fault at (search rules))

pub returns-in_err-revived-clause-full : goal.returns-in_err-revived-clause-full
returns-in_err-revived-clause-full g c n full = told_again c.from_residual.result c.in_err-revived.field-0.0 (Fault 6 n) (search rules) (c.in_err-revived.ensures.full n full)

pub returns-in_err-revived-clause-faulty : goal.returns-in_err-revived-clause-faulty
returns-in_err-revived-clause-faulty g c room =
    let told = g.D.Disk.bytes c.args.disk.now in
    let need = gate_of c.args.journal + 5 + length going_on + 1 in
    let is : c.from_residual.result ≡ Err c.in_err-revived.field-0.0 = search rules in
    subst (λ q. IsUnlessSmall told need q) (sym is) (unless_revived _ c.args.program.now c.in_err-revived.field-0.0 (λ f a made. (c.in_err-revived.ensures.fault f a (search rules)).1) room told need)

pub returns-in_err-marked-clause-any_moment : goal.returns-in_err-marked-clause-any_moment
returns-in_err-marked-clause-any_moment g c at =
    let P = c.args.program.now in
    let Q = c.in_ok-revived.revived in
    let T = c.args.trace.now.run in
    leaves_revival g.D.Disk.images g.D.Disk.moment g.D.Disk.left_since P T Q c.in_ok-revived.ensures.revival c.args.disk.now c.keep_mark.new.disk (c.in_err-marked.ensures.any_moment P Q T c.in_ok-revived.ensures.revival at)

pub returns-in_err-marked-clause-fault : goal.returns-in_err-marked-clause-fault
returns-in_err-marked-clause-fault g c fault at is =
    let told = g.D.Disk.bytes c.args.disk.now in
    let need = gate_of c.args.journal + 5 + length going_on + 1 in
    let same : c.in_err-marked.field-0.0 ≡ Fault fault at = search rules in
    inr (has_room c.args.program.now c.in_ok-revived.revived c.args.trace.now.run c.in_ok-revived.ensures.revival, subst (IsTooLarge told need) same c.in_err-marked.ensures.fault)

pub returns-in_err-marked-clause-full : goal.returns-in_err-marked-clause-full
returns-in_err-marked-clause-full g c n full = absurd (has_room c.args.program.now c.in_ok-revived.revived c.args.trace.now.run c.in_ok-revived.ensures.revival n full)

pub returns-in_err-marked-clause-faulty : goal.returns-in_err-marked-clause-faulty
returns-in_err-marked-clause-faulty g c room =
    unless_failed _ c.from_residual-in_err-marked.result c.in_err-marked.field-0.0 (search rules) (g.D.Disk.bytes c.args.disk.now) (gate_of c.args.journal + 5 + length going_on + 1) c.in_err-marked.ensures.faulty

pub returns-clause-any_moment : goal.returns-clause-any_moment
returns-clause-any_moment g c at =
    let P = c.args.program.now in
    let Q = c.in_ok-revived.revived in
    let T = c.args.trace.now.run in
    leaves_revival g.D.Disk.images g.D.Disk.moment g.D.Disk.left_since P T Q c.in_ok-revived.ensures.revival c.args.disk.now c.keep_mark.new.disk (c.in_ok-marked.ensures.any_moment P Q T c.in_ok-revived.ensures.revival at)

pub returns-clause-stands : goal.returns-clause-stands
returns-clause-stands g c at = c.in_ok-marked.ensures.stands c.args.program.now c.in_ok-revived.revived c.args.trace.now.run c.in_ok-revived.ensures.revival at

pub returns-clause-full : goal.returns-clause-full
returns-clause-full g c n full = absurd (has_room c.args.program.now c.in_ok-revived.revived c.args.trace.now.run c.in_ok-revived.ensures.revival n full)

pub returns-clause-faulty : goal.returns-clause-faulty
returns-clause-faulty g c room =
    unless_kept _ c.in_ok-marked.marked (g.D.Disk.bytes c.args.disk.now) (gate_of c.args.journal + 5 + length going_on + 1) c.in_ok-marked.ensures.faulty
