-- The jobs that are kept after one more step.
use Rattle.std.proofs.Common.{◌≡◌, ◌≢◌, ◌⊎◌, inl, inr, ⊎_elim, ℕ, IsTrue, Option, Some, None, List, refl, sym, ap, ◌∙◌, subst, arith}
use Rattle.std.specs.Prelude.{slice_get}
use Rattle.tau_tree.specs.declared.programs.Program.{Program}
use Rattle.tau_trace.specs.declared.step.Step.{Step}
use Rattle.tau_trace.specs.declared.step.Step.TheVariants.{Fail}
use Rattle.tau_trace.specs.Steps.{actor, ends_turn}
use Rattle.tau_trace.specs.Run.{Run, len, appended}
use Rattle.tau_trace.specs.Known.{WellFormed}
use Rattle.tau_trace.specs.Turns.{Turn, IsOpenTurn}
use Rattle.tau_trace.proofs.Lists.{same_some}
use Rattle.tau_script.specs.Scripts.{HasObject, fails, loses, repeats}
use Rattle.tau_eval.specs.Turn as jobs
use Rattle.tau_check.specs.Inner.Jobs.{HasJobOf, HasJobs, HasOtherJobs, KeepsOthers}
use Rattle.tau_check.proofs.Turns.{BeginsNone, earlier, ended}
use Rattle.tau_check.proofs.JobLemmas.{job_kept}

same_or_other : (t u : ℕ) → (t ≡ u) ⊎ (t ≢ u)
same_or_other t u = grind arith

-- the job of a transactor's own turn and those of the others are all jobs
pub all_jobs : (P : Program) (T : Run) (who : ℕ) (js : List (Option jobs.TurnSoFar)) → HasOtherJobs P T who js → ((place m : ℕ) → Turn T who (len T) place m → HasJobOf P T js who) → HasJobs P T js
all_jobs P T who js others own t place m u = ⊎_elim
    (λ (e : t ≡ who). subst (λ x. HasJobOf P T js x) (sym e) (own place m (subst (λ x. Turn T x (len T) place m) e u)))
    (λ ne. others t place m ne u)
    (same_or_other t who)

module _ (P : Program) (T : Run) (s : Step) (v : WellFormed T) (w : WellFormed (appended T s)) where
  -- the job of a transactor that doesn't make the step
  job_after : (js ks : List (Option jobs.TurnSoFar)) (t : ℕ) → actor s ≢ Some t → HasJobOf P T js t → ((o : Option jobs.TurnSoFar) → slice_get js t ≡ Some o → slice_get ks t ≡ Some o) → HasJobOf P (appended T s) ks t
  job_after js ks t ne h keeps = record {
    job = h.job;
    kept = keeps (Some h.job) h.kept;
    who = h.who;
    is_open = job_kept P T s v w h.job (λ e. ne (e ∙ ap Some h.who)) h.is_open;
  }

  -- the jobs of those who don't make the step
  pub others_after : (who : ℕ) (js ks : List (Option jobs.TurnSoFar)) → actor s ≡ Some who → HasOtherJobs P T who js → KeepsOthers who js ks → HasOtherJobs P (appended T s) who ks
  others_after who js ks by h keeps t place m ne u = ⊎_elim
      (λ x. job_after js ks t (λ e. ne (sym (same_some (sym by ∙ e)))) (h t place m ne x) (λ o e. keeps t o ne e))
      (λ e. absurd (ne (same_some (sym (ap actor e.1) ∙ by))))
      (earlier T s t place m u)

  -- where the transactor that makes the step has no open turn after it
  pub jobs_after : (who : ℕ) (js ks : List (Option jobs.TurnSoFar)) → actor s ≡ Some who → HasOtherJobs P T who js → KeepsOthers who js ks
      → ((place m : ℕ) → ¬ Turn (appended T s) who (len (appended T s)) place m) → HasJobs P (appended T s) ks
  jobs_after who js ks by h keeps none = all_jobs P (appended T s) who ks (others_after who js ks by h keeps) (λ place m u. absurd (none place m u))

  -- where the step ends its transactor's turn
  pub jobs_after_end : (who : ℕ) (js : List (Option jobs.TurnSoFar)) → actor s ≡ Some who → IsTrue (ends_turn s) → HasOtherJobs P T who js → HasJobs P (appended T s) js
  jobs_after_end who js by ends h = jobs_after who js js by h (λ t o ne e. e) (λ place m u. ended T s who place m by ends u)

  -- where its transactor has no open turn, and the step begins none
  pub jobs_after_idle : (who : ℕ) (js : List (Option jobs.TurnSoFar)) → actor s ≡ Some who → BeginsNone s → IsOpenTurn T who (len T) None → HasJobs P T js → HasJobs P (appended T s) js
  jobs_after_idle who js by begins idle h = jobs_after who js js by (λ t place m ne u. h t place m u) (λ t o ne e. e)
      (λ place m u. ⊎_elim (λ x. idle place m x) (λ e. begins who m e.1) (earlier T s who place m u))

  -- where nobody makes the step
  jobs_after_nobody : (js : List (Option jobs.TurnSoFar)) → actor s ≡ None → HasJobs P T js → HasJobs P (appended T s) js
  jobs_after_nobody js none h t place m u = ⊎_elim
      (λ x. job_after js js t (λ e. nobody (sym none ∙ e)) (h t place m x) (λ o e. e))
      (λ e. absurd (nobody (sym none ∙ ap actor e.1)))
      (earlier T s t place m u) where
        nobody : ¬ (None ≡ Some t)
        nobody e = cc

  -- after a due step
  pub jobs_after_due : (js : List (Option jobs.TurnSoFar)) → HasObject T (len T) s → HasJobs P T js → HasJobs P (appended T s) js
  jobs_after_due js object h = ⊎_elim
      (λ e. jobs_after_end e.0 js (ap actor e.1) (ap ends_turn e.1) (λ t place m ne u. h t place m u))
      (λ e. jobs_after_nobody js e h)
      (kind s object) where
        kind : (r : Step) → HasObject T (len T) r → ((t : ℕ) × (r ≡ Fail t)) ⊎ (actor r ≡ None)
        kind r (fails {t = t} lt living) = inl (t, refl)
        kind r (loses {m = m} f) = inr refl
        kind r (repeats {m = m} f) = inr refl
