-- Whether a step of a turn is legal, by the step that the system makes of it.
use Rattle.std.proofs.Common.{◌≡◌, ℕ, IsTrue, Option, Some, None, List, refl, sym, ap, ◌∙◌, subst}
use Rattle.std.specs.Prelude.{slice_get}
use Rattle.tau_value.specs.declared.shared.Value.{Value}
use Rattle.tau_value.specs.Value.{val_of}
use Rattle.tau_tree.specs.declared.programs.Program.{Program}
use Rattle.tau_trace.specs.declared.step.Step.{Step}
use Rattle.tau_trace.specs.declared.step.Step.TheVariants.{Get, Set, Skip, Send, New, Stabilize, Ask, Checkpoint, Hold, Rollback, Stay, Done, Trap}
use Rattle.tau_trace.specs.Steps.{actor, ends_turn}
use Rattle.tau_trace.specs.Run.{Run, len, appended, step_at}
use Rattle.tau_trace.specs.Known.{WellFormed}
use Rattle.tau_trace.specs.Turns.{IsOpenTurn}
use Rattle.tau_trace.proofs.Lists.{same_some}
use Rattle.tau_legal.specs.Fits.{is_of_turn}
use Rattle.tau_legal.specs.Traces.{Legal, IsLegal}
use Rattle.tau_eval.specs.Turn as jobs
use Rattle.tau_rules.specs.System.{Core, with_step}
use Rattle.tau_rules.specs.Answers.{IsOpenJob, IsStepped, IsActed, acted_by}
use Rattle.tau_check.specs.Families.{turn_of}
use Rattle.tau_check.specs.Inner.Jobs.{HasJobOf, HasJobs, HasOtherJobs, KeepsOthers, IsKeptAfter}
use Rattle.tau_check.specs.Inner.Checkers.{HasAsked, GoesOn}
use Rattle.tau_check.proofs.Kept.{all_jobs, others_after, jobs_after_end}
use Rattle.tau_check.proofs.FamilyLemmas.{of_effect, one_turn_step}
use Rattle.tau_check.proofs.Endings.{goes_on, last_step}

-- the transactor of a step of a turn makes it
pub acts_in_turn : (s : Step) (t : ℕ) → actor s ≡ Some t → IsTrue (is_of_turn s) → turn_of s ≡ Some t
acts_in_turn (Get u) t e h = e
acts_in_turn (Set u v) t e h = e
acts_in_turn (Skip u) t e h = e
acts_in_turn (Send u w v) t e h = e
acts_in_turn (New u b n v) t e h = e
acts_in_turn (Stabilize u) t e h = e
acts_in_turn (Ask u a) t e h = e
acts_in_turn (Checkpoint u) t e h = e
acts_in_turn (Hold u) t e h = e
acts_in_turn (Rollback u) t e h = e
acts_in_turn (Stay u) t e h = e
acts_in_turn (Done u) t e h = e
acts_in_turn (Trap u c) t e h = e
acts_in_turn s t e h = absurd (cc)

-- a step of a turn isn't legal where no turn of its transactor is open
pub idle_illegal : (P : Program) (T : Run) (s : Step) (who : ℕ) → IsOpenTurn T who (len T) None → turn_of s ≡ Some who → ¬ IsLegal P T (len T) s
idle_illegal P T s who idle by l =
    let h = of_effect P T who (len T) s by l.fits in
    idle h.has.place h.has.message h.has.turn

-- the step that was made
abbrev pub made : (old new : Core) (job : jobs.TurnSoFar) (reply : Option Value) → IsActed old new job (acted_by reply) → (s : Step) × IsStepped old new job s
made old new job None h = (h.0, h.1)
made old new job (Some x) h = (h.0, h.1)

module _ (old new : Core) (job : jobs.TurnSoFar) (s : Step) (reply : Option Value) (asked : HasAsked old.program old.run None)
    (by : turn_of s ≡ Some job.who) (h : IsActed old new job (acted_by reply)) where
  -- where another step than the one that was made stands there, it isn't legal
  pub turn_illegal : ¬ (step_at new.run (len old.run) ≡ Some s) → ¬ IsLegal old.program old.run (len old.run) s
  turn_illegal other l =
      let r = (made old new job reply h).0 in
      let stepped = (made old new job reply h).1 in
      let own : turn_of r ≡ Some job.who = acts_in_turn r job.who stepped.step.by stepped.step.of_turn in
      let same : r ≡ s = one_turn_step old.program old.run (len old.run) job.who r s asked.legal.opening own by stepped.step.fits l.fits in
      other (last_step old new r stepped.appended ∙ ap Some same)

  -- the step that stands there is the one that was made
  same_made : step_at new.run (len old.run) ≡ Some s → (made old new job reply h).0 ≡ s
  same_made here =
      let r = (made old new job reply h).0 in
      same_some (sym (last_step old new r (made old new job reply h).1.appended) ∙ here)

module _ (old new : Core) (job : jobs.TurnSoFar) (s : Step) (js ks : List (Option jobs.TurnSoFar)) (v : WellFormed old.run) (w : WellFormed (appended old.run s)) (is : new ≡ with_step old s)
    (by : actor s ≡ Some job.who) (others : HasOtherJobs old.program old.run job.who js) where
  -- the jobs after the step
  pub jobs_made : (reply : Option Value) (h : IsActed old new job (acted_by reply)) → (made old new job reply h).0 ≡ s → IsKeptAfter js ks job reply → HasJobs old.program (appended old.run s) ks
  jobs_made (Some x) h same kept =
      let next : jobs.TurnSoFar = jobs.with_reply job (val_of x) in
      let open_after : IsOpenJob old.program (appended old.run s) next = subst (λ (k : Core). IsOpenJob k.program k.run next) is h.4 in
      all_jobs old.program (appended old.run s) job.who ks
      (others_after old.program old.run s v w job.who js ks by others kept.others)
      (λ place n u. record { job = next; kept = kept.kept; who = refl; is_open = open_after })
  jobs_made None h same kept =
      subst (HasJobs old.program (appended old.run s)) (sym kept)
      (jobs_after_end old.program old.run s v w job.who js by (sym (ap ends_turn same) ∙ h.2) others)

-- the step that was made is legal, and the checker goes on
pub turn_goes_on : (old new : Core) (job : jobs.TurnSoFar) (s : Step) (reply : Option Value) (js ks : List (Option jobs.TurnSoFar)) → HasAsked old.program old.run None → WellFormed new.run → Legal new.program new.run
    → turn_of s ≡ Some job.who → HasOtherJobs old.program old.run job.who js → IsActed old new job (acted_by reply) → step_at new.run (len old.run) ≡ Some s → IsKeptAfter js ks job reply → GoesOn old new ks s
turn_goes_on old new job s reply js ks asked whole legal turn others h here kept =
    let stepped = (made old new job reply h).1 in
    let same = same_made old new job s reply asked turn h here in
    let is : new ≡ with_step old s = stepped.appended ∙ ap (with_step old) same in
    let w : WellFormed (appended old.run s) = subst (λ (k : Core). WellFormed k.run) is whole in
    let by : actor s ≡ Some job.who = sym (ap actor same) ∙ stepped.step.by in
    goes_on old new s ks asked.well_formed whole legal is
    (jobs_made old new job s js ks asked.well_formed w is by others reply h same kept)

-- the job that is kept for an open turn is its record
pub kept_job : (P : Program) (T : Run) (js : List (Option jobs.TurnSoFar)) (who : ℕ) (job : jobs.TurnSoFar) → HasJobOf P T js who → slice_get js who ≡ Some (Some job) → (job.who ≡ who) × IsOpenJob P T job
kept_job P T js who job h e =
    let same : h.job ≡ job = same_some (same_some (sym h.kept ∙ e)) in
    (sym (ap (λ (x : jobs.TurnSoFar). x.who) same) ∙ h.who, subst (IsOpenJob P T) same h.is_open)

-- where it is taken out, the others stay
pub others_left : (P : Program) (T : Run) (js ks : List (Option jobs.TurnSoFar)) (who : ℕ) → HasJobs P T js → KeepsOthers who js ks → HasOtherJobs P T who ks
others_left P T js ks who has keeps t place m ne u =
    let h = has t place m u in
    record { job = h.job; kept = keeps t (Some h.job) ne h.kept; who = h.who; is_open = h.is_open }
