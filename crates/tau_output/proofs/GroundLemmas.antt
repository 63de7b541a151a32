-- Each Hold, Drop and Fall of a legal run has its ground.
use Rattle.std.proofs.Common.{ℕ}
use Rattle.tau_tree.specs.declared.programs.Program.{Program}
use Rattle.tau_trace.specs.declared.step.Step.TheVariants.{Hold, Drop, Fall}
use Rattle.tau_trace.specs.Run.{Run}
use Rattle.tau_legal.specs.Traces.{Legal}
use Rattle.tau_past.specs.Decisions.{Verdict, drops, falls, fall, drop, FallsBy, DropsBy}
use Rattle.tau_explain.specs.Decisions.{IsGrounded}
use Rattle.tau_output.specs.Laws.{LegalRunsAreGrounded}

dropped_by : (T : Run) (t k m : ℕ) → Verdict T t k m drops → DropsBy T t k m
dropped_by T t k m (drop none d) = d

fallen_by : (T : Run) (t k m : ℕ) → Verdict T t k m falls → FallsBy T t k m
fallen_by T t k m (fall f) = f

legal_grounded : (P : Program) (T : Run) → Legal P T → IsGrounded T
legal_grounded P T l k (Hold t) a g = (l.steps k (Hold t) a.stands).fits.1 g
legal_grounded P T l k (Drop t m) a g = g (dropped_by T t k m (l.steps k (Drop t m) a.stands).fits.1)
legal_grounded P T l k (Fall t m) a g = g (fallen_by T t k m (l.steps k (Fall t m) a.stands).fits.1)
legal_grounded P T l k s a g = g

pub legal_runs_grounded : LegalRunsAreGrounded
legal_runs_grounded = record {
  grounded = legal_grounded;
  chained = λ P T place legal why. legal_grounded P T legal place why.0 why.1 why.3;
}
