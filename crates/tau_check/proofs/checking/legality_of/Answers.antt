use Rattle.std.proofs.Common.{ℕ, Option, refl, subst}
use Rattle.tau_tree.specs.declared.programs.Program.{Program}
use Rattle.tau_trace.specs.Run.{Run, len}
use Rattle.tau_check.specs.Inner.Checkers.{HasSteppedTo}
use Rattle.tau_check.proofs.Coming.{all_legal, completeness}
use Rattle.tau_check.proofs.checking.legality_of.Goals as goal

pub returns-in-None : goal.returns-in-None
returns-in-None c P T stepped =
    let checker = c.args.checker.now in
    let come = subst (λ (bad : Option ℕ). HasSteppedTo P T checker.legal.system checker.jobs.items bad) c.in-None.is stepped in (
      all_legal P T (len T) checker.legal.system checker.jobs.items come refl,
      completeness P T (len T) checker.legal.system checker.jobs.items come c.is_complete.result refl c.is_complete.ensures,
    )
