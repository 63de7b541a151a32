-- The jobs of a hand after one more step.
use Rattle.std.proofs.Common.{◌≡◌, ◌≢◌, ⊎_elim, ℕ, IsTrue, Some, None, List, [], ◌∷◌, ◌++◌, get_or, refl, sym, ap, ◌∙◌, subst, arith}
use Rattle.std.specs.List.{Contains}
use Rattle.std.proofs.lemmas.List.Quantifiers.{all_pairs_push}
use Rattle.std.proofs.lemmas.List.Elements.{Contains-append_left, Contains-push, Contains-push_cases, Contains-get_or}
use Rattle.tau_tree.specs.declared.programs.Program.{Program}
use Rattle.tau_trace.specs.declared.step.Step.{Step}
use Rattle.tau_trace.specs.declared.step.Step.TheVariants.{Take}
use Rattle.tau_trace.specs.Steps.{actor, ends_turn}
use Rattle.tau_trace.specs.Run.{Run, len, step_at, appended}
use Rattle.tau_trace.specs.Known.{WellFormed}
use Rattle.tau_trace.specs.Turns.{Turn, IsOpenTurn}
use Rattle.tau_trace.proofs.Lists.{same_some}
use Rattle.tau_eval.specs.Turn as jobs
use Rattle.tau_rules.specs.Answers.{IsOpenJob}
use Rattle.tau_rules.proofs.ActLemmas.{one_open_turn}
use Rattle.tau_check.proofs.Once.{same_taker}
use Rattle.tau_check.proofs.Turns.{BeginsNone, earlier, ended}
use Rattle.tau_check.proofs.JobLemmas.{job_kept}
use Rattle.tau_queue.specs.OpenTurns.{IsOpenFrom}
use Rattle.tau_book.specs.Adopted.{HasJobFrom}
use Rattle.tau_book.specs.Working.{AreJobs}
use Rattle.tau_book.specs.Inner.Working.{AreOpenJobs, AreOtherJobs}

-- one job more
pub with_more : (js : List jobs.TurnSoFar) (job : jobs.TurnSoFar) (place : ℕ) → HasJobFrom js place → HasJobFrom (js ++ job ∷ []) place
with_more js job place f = record { job = f.job; among = Contains-append_left js (job ∷ []) f.job f.among; from = f.from }

pub with_last : (js : List jobs.TurnSoFar) (job : jobs.TurnSoFar) (place : ℕ) → job.place ≡ place → HasJobFrom (js ++ job ∷ []) place
with_last js job place e = record { job = job; among = Contains-push js job; from = e }

-- a turn and the job of one place are of one transactor
pub one_who : (P : Program) (T : Run) (t place m : ℕ) (job : jobs.TurnSoFar) → Turn T t (len T) place m → IsOpenJob P T job → job.place ≡ place → t ≡ job.who
one_who P T t place m job u j e = same_taker t job.who m j.message (same_some (sym u.takes ∙ ap (step_at T) (sym e) ∙ j.turn.takes))

module _ (P : Program) (T : Run) (s : Step) (v : WellFormed T) (w : WellFormed (appended T s)) where
  -- a turn that is open after a step that begins none was open before it
  pub was_open : BeginsNone s → (place : ℕ) → (f : IsOpenFrom (appended T s) place) → Turn T f.who (len T) place f.message
  was_open begins place f = ⊎_elim (λ u. u) (λ e. absurd (begins f.who f.message e.1)) (earlier T s f.who place f.message f.turn)

  pub was_open_from : BeginsNone s → (place : ℕ) → IsOpenFrom (appended T s) place → IsOpenFrom T place
  was_open_from begins place f = record { who = f.who; message = f.message; turn = was_open begins place f }

  -- where the step begins no turn, and its transactor has none open after it
  pub jobs_stay : (js : List jobs.TurnSoFar) → BeginsNone s → ((t place m : ℕ) → actor s ≡ Some t → ¬ Turn (appended T s) t (len (appended T s)) place m) → AreJobs P T js → AreJobs P (appended T s) js
  jobs_stay js begins none h = record {
    one_each = h.one_each;
    records = λ job c f.
        let r : IsOpenJob P T job = h.records job c (was_open_from begins job.place f) in
        let who : f.who ≡ job.who = one_who P T f.who job.place f.message job (was_open begins job.place f) r refl in
        job_kept P T s v w job (λ e. none f.who job.place f.message (e ∙ ap Some (sym who)) f.turn) r;
    each = λ place f. h.each place (was_open_from begins place f);
  }

  -- where a Take opens a turn of one that was in none
  pub jobs_begun : (js : List jobs.TurnSoFar) (job : jobs.TurnSoFar) (m : ℕ) → s ≡ Take job.who m → job.place ≡ len T → IsOpenTurn T job.who (len T) None → IsOpenJob P (appended T s) job
      → AreOpenJobs P T js → AreJobs P (appended T s) (js ++ job ∷ [])
  jobs_begun js job m is at idle begun h = record {
    one_each = all_pairs_push (λ a b. a.place ≢ b.place) js job h.one_each (λ k d lt. λ e. omega (arith, (h.records (get_or js k d) (Contains-get_or js k d lt)).turn.before, e, at));
    records = λ j c f. ⊎_elim (λ d. kept j (h.records j d)) (λ (e : job ≡ j). subst (λ x. IsOpenJob P (appended T s) x) e begun) (Contains-push_cases js job j c);
    each = λ place f. ⊎_elim
        (λ u. with_more js job place (h.each place (record { who = f.who; message = f.message; turn = u })))
        (λ e. with_last js job place (at ∙ sym e.0))
        (earlier T s f.who place f.message f.turn);
  } where
    kept : (j : jobs.TurnSoFar) → IsOpenJob P T j → IsOpenJob P (appended T s) j
    kept j r = job_kept P T s v w j (λ e. idle j.place r.message (subst (λ t. Turn T t (len T) j.place r.message) (same_some (sym e ∙ ap actor is)) r.turn)) r

  -- after a step of the turn of a job the others stay
  module _ (job : jobs.TurnSoFar) (js : List jobs.TurnSoFar) (is_open : IsOpenJob P T job) (h : AreOtherJobs P T job js) (by : actor s ≡ Some job.who) (begins : BeginsNone s) where
    other_kept : (j : jobs.TurnSoFar) → Contains js j → IsOpenJob P (appended T s) j
    other_kept j c =
        let r = h.records j c in
        job_kept P T s v w j (λ e. r.1 (one_open_turn T job.who (len T) j.place job.place r.0.message is_open.message (subst (λ t. Turn T t (len T) j.place r.0.message) (same_some (sym e ∙ by)) r.0.turn) is_open.turn)) r.0

    -- where it ends the turn
    pub jobs_ended : IsTrue (ends_turn s) → AreJobs P (appended T s) js
    jobs_ended ends = record {
      one_each = h.one_each;
      records = λ j c f. other_kept j c;
      each = λ place f. ⊎_elim (λ (e : place ≡ job.place). absurd (over place f e)) (λ x. x) (h.each place (was_open_from begins place f));
    } where
      over : (place : ℕ) → IsOpenFrom (appended T s) place → ¬ (place ≡ job.place)
      over place f e =
          let who : f.who ≡ job.who = one_who P T f.who place f.message job (was_open begins place f) is_open (sym e) in
          ended T s f.who place f.message (by ∙ ap Some (sym who)) ends f.turn

    -- where the turn goes on with another job in the place of the one
    pub jobs_going : (next : jobs.TurnSoFar) → next.place ≡ job.place → IsOpenJob P (appended T s) next → AreJobs P (appended T s) (js ++ next ∷ [])
    jobs_going next at opened = record {
      one_each = all_pairs_push (λ a b. a.place ≢ b.place) js next h.one_each (λ k d lt. λ e. (h.records (get_or js k d) (Contains-get_or js k d lt)).1 (e ∙ at));
      records = λ j c f. ⊎_elim (λ d. other_kept j d) (λ (e : next ≡ j). subst (λ x. IsOpenJob P (appended T s) x) e opened) (Contains-push_cases js next j c);
      each = λ place f. ⊎_elim
          (λ (e : place ≡ job.place). with_last js next place (at ∙ sym e))
          (λ x. with_more js next place x)
          (h.each place (was_open_from begins place f));
    }
