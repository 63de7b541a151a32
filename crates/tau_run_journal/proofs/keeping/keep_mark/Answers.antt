use Rattle.tau_journal.specs.Records.{going_on}
use Rattle.tau_journal.specs.Gates.{gate_of}
use Rattle.tau_run_journal.proofs.Answered.{if_ok_then}
use Rattle.tau_run_journal.proofs.Kept.{stands_then, leaves_either, with_mark}
use Rattle.tau_run_journal.proofs.keeping.keep_mark.Goals as goal

pub returns-clause-stands : goal.returns-clause-stands
returns-clause-stands g c =
    if_ok_then _ _ c.mark.result
    (λ j appends P Q T revival at. stands_then P Q T T going_on (with_mark P Q T revival) (g.D.Disk.bytes c.args.disk.now) (g.D.Disk.bytes c.mark.new.disk) (gate_of c.args.journal) (gate_of j) appends at)
    c.mark.ensures.appended

pub returns-clause-any_moment : goal.returns-clause-any_moment
returns-clause-any_moment g c P Q T revival at =
    leaves_either P Q T T going_on (with_mark P Q T revival) g.D.Disk.moment g.D.Disk.left_since c.args.disk.now c.mark.new.disk (g.D.Disk.bytes c.args.disk.now) (gate_of c.args.journal) c.mark.ensures.any_moment at
