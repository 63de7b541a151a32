-- What came of an effect, from what came of the next effect of an open turn.
use Rattle.std.proofs.Common.{◌≡◌, ℕ, ◌<◌, Option, Some, None, sym, ap, ◌∙◌, subst}
use Rattle.tau_value.specs.declared.shared.Value.{Value}
use Rattle.tau_value.specs.Value.{val_of}
use Rattle.tau_tree.specs.Sound.{Sound}
use Rattle.tau_trace.specs.declared.step.Step.{Step}
use Rattle.tau_trace.specs.Run.{len, appended}
use Rattle.tau_trace.specs.Known.{WellFormed, IsKnownAt}
use Rattle.tau_trace.proofs.Indexing.{well_formed_appended}
use Rattle.tau_eval.specs.Eff.{Eff}
use Rattle.tau_eval.specs.Turn as jobs
use Rattle.tau_eval.specs.Turn.{next_in, with_reply}
use Rattle.tau_legal.specs.Turns.{TurnHas}
use Rattle.tau_legal.specs.Traces.{Fitting}
use Rattle.tau_legal.specs.Fits.{IsStepOfTurn}
use Rattle.tau_legal.specs.Choices.{IsChoice}
use Rattle.tau_legal.proofs.VersionLemmas.{turn_in_version}
use Rattle.tau_legal.specs.declared.choices.Choice.{Choice}
use Rattle.tau_legal.specs.declared.choices.Choice.TheVariants.{GoesOn, Ends}
use Rattle.tau_rules.specs.System.{Core}
use Rattle.tau_rules.specs.Answers.{IsOpenJob, IsStepped, IsActed, acted_by}
use Rattle.tau_rules.specs.Inner.Acting.{IsMade, IsMadeBy, step_of}
use Rattle.tau_rules.proofs.ActLemmasOfJobs.{job_effect}
use Rattle.tau_rules.proofs.ActLemmasOfSteps.{step_known, job_goes_on}

-- what is kept of a system: its program is sound, and its run is well formed and fits
pub record IsKept (k : Core) : Type 0 where
  pub sound : Sound k.program
  pub well_formed : WellFormed k.run
  pub fitting : Fitting k.program k.run

-- what a step of an open turn names, exists
pub step_exists : (k : Core) → IsKept k → (t : ℕ) (s : Step) → IsStepOfTurn k.program k.run t s → IsKnownAt k.run (len k.run) s
step_exists k kept t s h = step_known k.program k.run kept.sound kept.well_formed kept.fitting.opening t s h

-- what the chosen step names, exists
pub choice_known : (k : Core) → IsKept k → (t : ℕ) (c : Choice) → IsChoice k.program k.run t c → IsKnownAt k.run (len k.run) (step_of c)
choice_known k kept t (GoesOn s reply) h = step_exists k kept t s h.0
choice_known k kept t (Ends s) h = step_exists k kept t s h.0

-- the next effect of the open turn of t is that of the job of t
pub effect_of_job : (k : Core) (t : ℕ) (e : Eff) (job : jobs.TurnSoFar) → job.who ≡ t → e ≡ next_in job → IsOpenJob k.program k.run job → TurnHas k.program k.run t (len k.run) e
effect_of_job k t e job who is h =
    subst (λ w. TurnHas k.program k.run w (len k.run) e) who (subst (TurnHas k.program k.run job.who (len k.run)) (sym is) (job_effect k.program k.run job h))

module _ (old new : Core) (kept : IsKept old) (few : len old.run < 1000000) (t : ℕ) (job : jobs.TurnSoFar) (who : job.who ≡ t) (was_open : IsOpenJob old.program old.run job) where
  stepped : (s : Step) → IsMadeBy old new t s → IsStepped old new job s
  stepped s made = record {
    was_open = was_open;
    step = subst (λ w. IsStepOfTurn old.program old.run w s) (sym who) made.step;
    appended = made.appended;
  }

  well_formed_after : (s : Step) → IsMadeBy old new t s → WellFormed (appended old.run s)
  well_formed_after s made = well_formed_appended old.run s kept.well_formed (record { known = step_exists old kept t s made.step; version = turn_in_version old.run.opening.version s made.step.of_turn; few_steps = few })

  -- where the step of the next effect of the job's turn was appended, that came of the effect
  pub acted : (o : Option Value) → IsMade old new t o → IsActed old new job (acted_by o)
  acted (Some r) h =
      let s = h.0 in
      let made = h.1 in
      let after = job_goes_on old.program old.run s kept.well_formed (well_formed_after s made) h.2 job (val_of r) (made.step.by ∙ ap Some (sym who)) h.3 was_open in
      (s, stepped s made, h.2, h.3, subst (λ (k : Core). IsOpenJob k.program k.run (with_reply job (val_of r))) (sym made.appended) after)
  acted None h = (h.0, stepped h.0 h.1, h.2)
