-- The step of an open turn: what it names exists, and after a reply the record of the turn is the job with that reply.
use Rattle.std.proofs.Common.{◌≡◌, ◌⊎◌, ⊎_elim, ℕ, suc, ◌<◌, true, false, IsTrue, IsFalse, Some, [], ◌∷◌, ◌++◌, length, refl, sym, ap, ◌∙◌, subst, arith}
use Rattle.std.specs.Prelude.{◌||◌, option_and_then}
use Rattle.tau_value.specs.declared.shared.Value.{Value}
use Rattle.tau_value.specs.Val.{Val}
use Rattle.tau_value.specs.Value.{val_of}
use Rattle.tau_tree.specs.declared.programs.Program.{Program}
use Rattle.tau_tree.specs.Sound.{Sound}
use Rattle.tau_trace.specs.declared.step.Step.{Step}
use Rattle.tau_trace.specs.declared.step.Step.TheVariants.{Take, Get, Set, Skip, Send, New, Stabilize, Ask, Checkpoint, Hold, Rollback, Stay, Done, Trap}
use Rattle.tau_trace.specs.Steps.{actor, ends_turn, is_take}
use Rattle.tau_trace.specs.Run.{Run, Agree, Does, step_at, ActsAt, len, appended}
use Rattle.tau_trace.specs.Numbering.{born, sent}
use Rattle.tau_trace.specs.Turns.{Turn}
use Rattle.tau_trace.specs.Known.{WellFormed, IsKnownAt, IsKnownValue}
use Rattle.tau_trace.proofs.Lists.{same_some}
use Rattle.tau_trace.proofs.Agreement.{agree_appended, step_at-appended, does-same, born-grows, sent-grows}
use Rattle.tau_trace.proofs.Indexing.{len-appended}
use Rattle.tau_script.specs.Openings.{program_opening}
use Rattle.tau_states.specs.Opening.{opening_states}
use Rattle.tau_eval.specs.Eff.{Eff}
use Rattle.tau_eval.specs.Known.{IsKnown, IsKnownEffect}
use Rattle.tau_eval.specs.Turn as jobs
use Rattle.tau_eval.specs.Turn.{with_reply}
use Rattle.tau_legal.specs.Turns.{Replies, RepliesOf, reply, TurnHas}
use Rattle.tau_legal.proofs.LocalLemmas.{replies-same, replies_of-same, body-same, value-same}
use Rattle.tau_legal.proofs.TraceLemmas.{known_at_end}
use Rattle.tau_legal.proofs.ValueLemmas.{turn_effect_known}
use Rattle.tau_legal.specs.Choices.{goes_on}
use Rattle.tau_rules.specs.Answers.{IsOpenJob}
use Rattle.tau_legal.specs.Fits.{Fits, is_of_turn, IsStepOfTurn}
use Rattle.tau_rules.proofs.ActLemmasOfJobs.{turn_exists, behaviours_counted}

known_value : (n : ℕ) (v : Value) → IsKnown n (val_of v) → IsKnownValue n v
known_value n v k = record { in_bounds = k.0; names = k.1 }

module _ (P : Program) (T : Run) (sound : Sound P) (well : WellFormed T) (opens : T.opening ≡ program_opening P) where
  exists : (t : ℕ) (e : Eff) → TurnHas P T t (len T) e → t < born T (len T)
  exists = turn_exists P T well

  effect_known : (t : ℕ) (e : Eff) → TurnHas P T t (len T) e → IsKnownEffect (born T (len T)) (length P.behaviours) P.nodes e
  effect_known = turn_effect_known P T sound well opens

  nodes_counted : T.opening.nodes ≡ P.nodes
  nodes_counted = ap (λ o. o.nodes) opens

  -- what a step of an open turn that fits names, exists
  pub fitting_known : (s : Step) → IsTrue (is_of_turn s) → Fits P T (len T) s → IsKnownAt T (len T) s
  fitting_known (Get t) of_turn f = exists t _ f
  fitting_known (Set t v) of_turn f = (exists t _ f.0, known_value (born T (len T)) v (effect_known t _ f.0))
  fitting_known (Skip t) of_turn f = exists t _ f.1
  fitting_known (Send t u v) of_turn f =
      let known = effect_known t _ f in
      (exists t _ f, known.0, known_value (born T (len T)) v known.1)
  fitting_known (New t b n v) of_turn f =
      let known = effect_known t _ f.0 in
      (exists t _ f.0, omega (arith, known.0, behaviours_counted P T opens), omega (arith, known.1, nodes_counted), known_value (born T (len T)) v known.2)
  fitting_known (Stabilize t) of_turn f = exists t _ f
  fitting_known (Ask t a) of_turn f = exists t _ f.0
  fitting_known (Checkpoint t) of_turn f = exists t _ f.0
  fitting_known (Hold t) of_turn f = exists t _ f.0
  fitting_known (Rollback t) of_turn f = exists t _ f.0
  fitting_known (Stay t) of_turn f = exists t _ f.0
  fitting_known (Done t) of_turn f = exists t _ f
  fitting_known (Trap t c) of_turn f = ⊎_elim
      (λ h. let known = effect_known t _ h in (exists t _ h, known.0, known.1))
      (λ h. (exists t _ h.1.effect, omega (arith, h.0), omega (arith, h.0)))
      f
  fitting_known s of_turn f = absurd (cc)

  pub step_known : (t : ℕ) (s : Step) → IsStepOfTurn P T t s → IsKnownAt T (len T) s
  step_known t s h = fitting_known s h.of_turn h.fits

-- a step after which a turn goes on neither begins nor ends one
goes_on_bounds_none : (s : Step) → IsTrue (goes_on s) → IsFalse (ends_turn s || is_take s)
goes_on_bounds_none (Get t) h = refl
goes_on_bounds_none (Set t v) h = refl
goes_on_bounds_none (Skip t) h = refl
goes_on_bounds_none (Send t u v) h = refl
goes_on_bounds_none (New t b n v) h = refl
goes_on_bounds_none (Stabilize t) h = refl
goes_on_bounds_none (Ask t a) h = refl
goes_on_bounds_none s h = absurd (cc)

cases_last : (j k : ℕ) → j < suc k → (j ≡ k) ⊎ (j < k)
cases_last j k h = grind arith

module _ (P : Program) (T : Run) (s : Step) (v : WellFormed T) (w : WellFormed (appended T s)) (goes : IsTrue (goes_on s)) where
  -- the step stands at the end
  stands : step_at (appended T s) (len T) ≡ Some s
  stands = step_at-appended T s

  agree : Agree T (appended T s) (len T)
  agree = agree_appended T s

  not_at_end : (t : ℕ) → ¬ Does (λ r. ends_turn r || is_take r) (appended T s) t (len T)
  not_at_end t d =
      let same : d.step ≡ s = same_some (sym d.stands ∙ stands) in
      let both : false ≡ true = sym (goes_on_bounds_none s goes) ∙ ap (λ r. ends_turn r || is_take r) (sym same) ∙ d.passes in
      cc

  -- a turn that is open stays open after it
  turn_stays : (t place m : ℕ) → Turn T t (len T) place m → Turn (appended T s) t (suc (len T)) place m
  turn_stays t place m u = record {
    before = omega (arith, u.before);
    takes = sym (agree.steps place u.before) ∙ u.takes;
    goes_on = λ j after before d. ⊎_elim
        (λ (e : j ≡ len T). not_at_end t (subst (Does (λ r. ends_turn r || is_take r) (appended T s) t) e d))
        (λ (l : j < len T). u.goes_on j after l (does-same {T = appended T s} {U = T} (λ r. ends_turn r || is_take r) t j (sym (agree.steps j l)) d))
        (cases_last j (len T) before);
  }

  -- after it the record of its turn is the job with the reply
  pub job_goes_on : (job : jobs.TurnSoFar) (r : Val) → actor s ≡ Some job.who → Replies T (opening_states P.starts) (len T) s r → IsOpenJob P T job → IsOpenJob P (appended T s) (with_reply job r)
  job_goes_on job r by gives h =
      let O = opening_states P.starts in
      let t = job.who in
      let k = len T in
      let known = v.known job.place (Take t h.message) h.turn.takes in
      let within = h.turn.before in
      let exists : t < born T k = omega (arith, known.0, born-grows T job.place k (omega arith)) in
      let sent_before : h.message < sent T k = omega (arith, known.1, sent-grows T job.place k (omega arith)) in
      let acts : ActsAt (appended T s) t k = ap (option_and_then actor) stands ∙ by in
      let so_far = replies_of-same O t (suc job.place) k job.replies v w agree h.replies in
      let replies : RepliesOf (appended T s) O t (suc job.place) (suc k) (job.replies ++ r ∷ []) = reply r (omega arith) acts stands (replies-same O k s r v w agree (known_at_end T s w) gives) so_far in
      record {
        message = h.message;
        turn = subst (λ n. Turn (appended T s) t n job.place h.message) (sym (len-appended T s)) (turn_stays t job.place h.message h.turn);
        body = body-same P t k job.body agree exists h.body;
        nodes = h.nodes;
        value = value-same P h.message k job.message agree sent_before h.value;
        replies = subst (λ n. RepliesOf (appended T s) O t (suc job.place) n (job.replies ++ r ∷ [])) (sym (len-appended T s)) replies;
      }
