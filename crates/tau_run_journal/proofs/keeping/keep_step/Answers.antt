use Rattle.std.proofs.Common.{◌≡◌, ◌+◌, ◌∷◌, ◌++◌, [], List, ℕ, length, ◌∙◌, subst}
use Rattle.std.specs.Prelude.{IfErr}
use Rattle.tau_journal.specs.Records.{TellsRecords, IsBeforeOrAfter}
use Rattle.tau_journal.specs.Room.{IsTooLarge, IsUnlessSmall}
use Rattle.tau_journal.specs.Gates.{gate_of}
use Rattle.tau_journal.specs.declared.errors.JournalError.TheVariants.{Fault}
use Rattle.tau_journal.specs.Disk.Moments.{LeavesOnly}
use Rattle.tau_run_journal.proofs.Answered.{if_ok_then}
use Rattle.tau_run_journal.proofs.Kept.{stands_then, leaves_either, leaves_at_first, with_step}
use Rattle.tau_run_journal.proofs.StepTexts.{one_text}
use Rattle.tau_run_journal.proofs.keeping.keep_step.Goals as goal

pub returns-in_err-text-clause-any_moment : goal.returns-in_err-text-clause-any_moment
returns-in_err-text-clause-any_moment g c P T s last at =
    leaves_at_first g.D.Disk.images g.D.Disk.moment g.D.Disk.left_since g.met.D.Disk.only_now P P T c.args.trace.now.run c.args.disk.now (g.D.Disk.bytes c.args.disk.now) (gate_of c.args.journal) at c.requires.rest

pub returns-clause-any_moment : goal.returns-clause-any_moment
returns-clause-any_moment g c P T s last at =
    let U = c.args.trace.now.run in
    let text = c.in_ok-text.text.items in
    leaves_either P P T U text (with_step P T U s text last (c.in_ok-text.ensures T s last)) g.D.Disk.moment g.D.Disk.left_since c.args.disk.now c.append.new.disk (g.D.Disk.bytes c.args.disk.now) (gate_of c.args.journal)
    (λ rs told. subst (λ (r : List ℕ). LeavesOnly g.D.Disk.moment g.D.Disk.left_since c.args.disk.now c.append.new.disk (IsBeforeOrAfter rs r)) c.deref.ensures.value (c.append.ensures.any_moment rs told)) at

pub returns-clause-stands : goal.returns-clause-stands
returns-clause-stands g c =
    let U = c.args.trace.now.run in
    let text = c.in_ok-text.text.items in
    if_ok_then _ _ c.append.result
    (λ j appends P T s last at.
    stands_then P P T U text (with_step P T U s text last (c.in_ok-text.ensures T s last)) (g.D.Disk.bytes c.args.disk.now) (g.D.Disk.bytes c.append.new.disk) (gate_of c.args.journal) (gate_of j)
    (λ rs told. subst (λ (r : List ℕ). TellsRecords (g.D.Disk.bytes c.append.new.disk) (rs ++ r ∷ []) (gate_of j)) c.deref.ensures.value (appends rs told)) at)
    c.append.ensures.appended

pub returns-clause-fault : goal.returns-clause-fault
returns-clause-fault g c fault at is T s r last text =
    let same : c.deref.result.now ≡ r = c.deref.ensures.value ∙ one_text T s c.in_ok-text.text.items r (c.in_ok-text.ensures T s last) text in
    subst (λ (l : List ℕ). IsTooLarge (g.D.Disk.bytes c.args.disk.now) (gate_of c.args.journal + 5 + length l + 1) (Fault fault at)) same
    (subst (λ q. IfErr q (IsTooLarge (g.D.Disk.bytes c.args.disk.now) (gate_of c.args.journal + 5 + length c.deref.result.now + 1))) is c.append.ensures.fault)

pub returns-clause-faulty : goal.returns-clause-faulty
returns-clause-faulty g c T s r last text =
    let same : c.deref.result.now ≡ r = c.deref.ensures.value ∙ one_text T s c.in_ok-text.text.items r (c.in_ok-text.ensures T s last) text in
    subst (λ (l : List ℕ). IsUnlessSmall (g.D.Disk.bytes c.args.disk.now) (gate_of c.args.journal + 5 + length l + 1) c.append.result) same c.append.ensures.faulty
