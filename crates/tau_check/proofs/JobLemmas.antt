-- An open turn has one job; it stays the job where others make a step.
use Rattle.std.proofs.Common.{◌≢◌, ℕ, suc, ◌<◌, List, Some, sym, ap, ◌∙◌, subst, arith}
use Rattle.std.specs.Prelude.{option_and_then}
use Rattle.tau_value.specs.declared.shared.Value.{Value}
use Rattle.tau_tree.specs.declared.programs.Program.{Program}
use Rattle.tau_trace.specs.declared.step.Step.{Step}
use Rattle.tau_trace.specs.declared.step.Step.TheVariants.{Take}
use Rattle.tau_trace.specs.Steps.{actor}
use Rattle.tau_trace.specs.Run.{Run, len, appended, ActsAt}
use Rattle.tau_trace.specs.Numbering.{born, sent}
use Rattle.tau_trace.specs.Known.{WellFormed}
use Rattle.tau_trace.proofs.Agreement.{agree_appended, step_at-appended, born-grows, sent-grows}
use Rattle.tau_trace.proofs.Indexing.{len-appended}
use Rattle.tau_states.specs.Opening.{opening_states}
use Rattle.tau_eval.specs.Turn as jobs
use Rattle.tau_legal.specs.Turns.{RepliesOf, another}
use Rattle.tau_legal.proofs.LocalLemmas.{body-same, value-same, replies_of-same}
use Rattle.tau_rules.specs.Answers.{IsOpenJob}
use Rattle.tau_check.proofs.Turns.{stays_open}

module _ (P : Program) (T : Run) (s : Step) (v : WellFormed T) (w : WellFormed (appended T s)) where
  not_acts : (t : ℕ) → actor s ≢ Some t → ¬ ActsAt (appended T s) t (len T)
  not_acts t ne a = ne (sym (ap (option_and_then actor) (step_at-appended T s)) ∙ a)

  -- an open job stays one where another transactor, or none, makes the step
  pub job_kept : (job : jobs.TurnSoFar) → actor s ≢ Some job.who → IsOpenJob P T job → IsOpenJob P (appended T s) job
  job_kept job ne h =
      let known = (v.known job.place (Take job.who h.message) h.turn.takes) in
      let within = h.turn.before in
      let agree = agree_appended T s in
      let opening : List Value = opening_states P.starts in
      let exists : job.who < born T (len T) = omega (arith, known.0, born-grows T job.place (len T) (omega arith)) in
      let was_sent : h.message < sent T (len T) = omega (arith, known.1, sent-grows T job.place (len T) (omega arith)) in
      let longer : RepliesOf (appended T s) opening job.who (suc job.place) (suc (len T)) job.replies = another (omega arith) (not_acts job.who ne) (replies_of-same opening job.who (suc job.place) (len T) job.replies v w agree h.replies) in
      record {
        message = h.message;
        turn = stays_open T s job.who job.place h.message ne h.turn;
        body = body-same P job.who (len T) job.body agree exists h.body;
        nodes = h.nodes;
        value = value-same P h.message (len T) job.message agree was_sent h.value;
        replies = subst (λ k. RepliesOf (appended T s) opening job.who (suc job.place) k job.replies) (sym (len-appended T s)) longer;
      }
