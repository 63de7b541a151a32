-- A fitting trace keeps the facts from which a trace is safe.
use Rattle.std.proofs.Common.{◌≡◌, ℕ, Some, IsFalse, IsTrue, subst}
use Rattle.tau_tree.specs.declared.programs.Program.{Program}
use Rattle.tau_trace.specs.declared.step.Step.{Step}
use Rattle.tau_trace.specs.declared.step.Step.TheVariants.{Fall, Rollback, Set, Checkpoint}
use Rattle.tau_trace.specs.Steps.{actor}
use Rattle.tau_trace.specs.Run.{Run}
use Rattle.tau_trace.specs.Histories.{history}
use Rattle.tau_past.specs.Carried.{is_set}
use Rattle.tau_past.specs.Decisions.{Verdict, falls, FallsBy, fall}
use Rattle.tau_past.specs.Safety.{KeepsRules}
use Rattle.tau_past.proofs.Safety.{safety}
use Rattle.tau_legal.specs.Fits.{Fits}
use Rattle.tau_legal.specs.Traces.{Fitting}
use Rattle.tau_legal.specs.Laws.{FittingTracesAreSafe}

cause : (T : Run) (t k m : ℕ) → Verdict T t k m falls → FallsBy T t k m
cause T t k m (fall f) = f

-- a Set that fits is made by a volatile transactor
set_case : (P : Program) (T : Run) (t k : ℕ) (s : Step) → IsTrue (is_set s) → actor s ≡ Some t → Fits P T k s → IsFalse (history T t k).stable
set_case P T t k (Set u v) set by fits =
    let same : u ≡ t = cc in
    subst (λ w. IsFalse (history T w k).stable) same fits.1
set_case P T t k s set by fits = absurd (cc)

pub keeps_rules : (P : Program) (T : Run) → Fitting P T → KeepsRules T
keeps_rules P T f =
    record { rollback = λ t k s. (f.steps k (Rollback t) s).1; set = λ t k d. set_case P T t k d.step d.passes d.by (f.steps k d.step d.stands); fall = λ t k m s. cause T t k m (f.steps k (Fall t m) s).1; checkpoint = λ t k s. (f.steps k (Checkpoint t) s).1 }

pub fitting_safe : FittingTracesAreSafe
fitting_safe P T well f = safety T well (keeps_rules P T f)
