-- The checker comes to each place of a trace, and tells of the whole trace.
use Rattle.std.proofs.Common.{◌≡◌, ◌⊎◌, ◌↔◌, ⊎_elim, ℕ, suc, ◌+◌, ◌<◌, Bool, IsTrue, Option, Some, List, [], ◌∷◌, length, refl, sym, ap, ◌∙◌, subst, arith}
use Rattle.std.specs.Prelude.{slice_get}
use Rattle.std.proofs.lemmas.Option.{slice_get_within}
use Rattle.tau_tree.specs.declared.programs.Program.{Program}
use Rattle.tau_trace.specs.declared.step.Step.{Step}
use Rattle.tau_trace.specs.Run.{Run, len, step_at}
use Rattle.tau_trace.specs.Numbering.{born, sent}
use Rattle.tau_trace.specs.Known.{IsSound, IsKnown, IsKnownAt, IsInVersion, MayFollow, WellFormed}
use Rattle.tau_trace.proofs.Lists.{same_some, slice_get-front}
use Rattle.tau_trace.proofs.Agreement.{agree_sym, agree_below, born-same, sent-same}
use Rattle.tau_trace.proofs.Indexing.{known_same, len-appended}
use Rattle.tau_script.specs.Openings.{program_opening}
use Rattle.tau_legal.specs.Traces.{IsLegal, Legal, Complete}
use Rattle.tau_legal.proofs.TraceLemmas.{legal_same}
use Rattle.tau_eval.specs.Turn as jobs
use Rattle.tau_rules.specs.System.{Core}
use Rattle.tau_check.specs.Legality.{IsFirstIllegal}
use Rattle.tau_check.specs.Inner.Checkers.{IsChecker, GoesOn, HasCome}
use Rattle.tau_check.proofs.Endings.{last_step}

-- lists with the same items are the same
same_items : {A : Type 0} (xs ys : List A) → length xs ≡ length ys → ((j : ℕ) → j < length xs → slice_get xs j ≡ slice_get ys j) → xs ≡ ys
same_items [] [] e h = refl
same_items [] (y ∷ ys) e h = absurd (omega arith)
same_items (x ∷ xs) [] e h = absurd (omega arith)
same_items (x ∷ xs) (y ∷ ys) e h =
    let first : x ≡ y = same_some (h 0 (omega arith)) in
    let rest : xs ≡ ys = same_items xs ys (omega arith) (λ j l. h (suc j) (omega arith)) in
    λ i. first i ∷ rest i

below_or_last : (j k : ℕ) → j < k + 1 → (j < k) ⊎ (j ≡ k)
below_or_last j k l = grind arith

-- the run without steps
abbrev pub no_steps : Program → Run
no_steps P = record { opening = program_opening P; steps = [] }

-- before the first step
pub come_to_first : (P : Program) (T : Run) (core : Core) (js : List (Option jobs.TurnSoFar)) → WellFormed T → T.opening ≡ program_opening P → core.program ≡ P → core.run ≡ no_steps P
    → HasCome P T 0 core js
come_to_first P T core js v opens program run = record {
  program = program;
  length = ap len run;
  agree = record { opening = opens ∙ sym (ap (λ (x : Run). x.opening) run); steps = λ j l. absurd (omega arith) };
  checker = subst (λ (p : Program). IsChecker p core.run js) (sym program) (subst (λ (x : Run). IsChecker P x js) (sym run) first);
} where
  nothing_at : (k : ℕ) (s : Step) → ¬ (step_at (no_steps P) k ≡ Some s)
  nothing_at k s e = omega (arith, slice_get_within (no_steps P).steps k s e)

  first : IsChecker P (no_steps P) js
  first = record {
    well_formed = record { opening = subst IsSound opens v.opening; known = λ k s e. absurd (nothing_at k s e); versions = λ k s e. absurd (nothing_at k s e); few_steps = omega arith };
    legal = record { opening = refl; steps = λ k s e. absurd (nothing_at k s e) };
    has_jobs = λ t place m u. absurd (omega (arith, u.before));
  }

module _ (P : Program) (T : Run) (k : ℕ) (core : Core) (js : List (Option jobs.TurnSoFar)) (v : WellFormed T) (h : HasCome P T k core js) where
  -- the next step may follow
  pub next_follows : (s : Step) → step_at T k ≡ Some s → MayFollow core.run s
  next_follows s e =
      let U : Run = core.run in
      let here : IsKnown T.opening (born U k) (sent U k) s = known_same T.opening (born T k) (born U k) (sent T k) (sent U k) s (born-same k h.agree) (sent-same k h.agree) (v.known k s e) in
      let opened : IsKnownAt U k s = subst (λ o. IsKnown o (born U k) (sent U k) s) h.agree.opening here in
      record {
        known = subst (λ n. IsKnownAt U n s) (sym h.length) opened;
        version = subst (λ o. IsInVersion o.version s) h.agree.opening (v.versions k s e);
        few_steps = omega (arith, h.length, slice_get_within T.steps k s e, v.few_steps);
      }

  -- a step that isn't legal after the run isn't legal in the trace
  next_illegal : (s : Step) → step_at T k ≡ Some s → ¬ IsLegal core.program core.run (len core.run) s → ¬ IsLegal P T k s
  next_illegal s e refused l =
      let there : IsLegal P core.run k s = legal_same P T core.run k s v h.checker.well_formed h.agree (v.known k s e) l in
      refused (subst (λ (p : Program). IsLegal p core.run (len core.run) s) (sym h.program) (subst (λ n. IsLegal P core.run n s) (sym h.length) there))

  -- the steps before are legal in the trace
  earlier_legal : (j : ℕ) (s : Step) → j < k → step_at T j ≡ Some s → IsLegal P T j s
  earlier_legal j s lt e =
      let stands : step_at core.run j ≡ Some s = sym (h.agree.steps j lt) ∙ e in
      let there : IsLegal P core.run j s = subst (λ (p : Program). IsLegal p core.run j s) h.program (h.checker.legal.steps j s stands) in
      legal_same P core.run T j s h.checker.well_formed v (agree_sym (agree_below j (omega arith) h.agree)) (h.checker.well_formed.known j s stands) there

  -- so it is the first that isn't
  pub first_illegal : (s : Step) → step_at T k ≡ Some s → ¬ IsLegal core.program core.run (len core.run) s → IsFirstIllegal P T k
  first_illegal s e refused = record { step = s; stands = e; illegal = next_illegal s e refused; earlier = earlier_legal }

  -- the checker comes to the place after a legal step
  pub come_after : (new : Core) (ks : List (Option jobs.TurnSoFar)) (s : Step) → step_at T k ≡ Some s → GoesOn core new ks s → HasCome P T (k + 1) new ks
  come_after new ks s e g = record {
    program = ap (λ (x : Core). x.program) g.appended ∙ h.program;
    length = ap (λ (x : Core). len x.run) g.appended ∙ omega (arith, len-appended core.run s, h.length);
    agree = record {
      opening = h.agree.opening ∙ sym (ap (λ (x : Core). x.run.opening) g.appended);
      steps = λ j l. ⊎_elim (below j) (last j) (below_or_last j k l);
    };
    checker = g.checker;
  } where
    below : (j : ℕ) → j < k → step_at T j ≡ step_at new.run j
    below j l = h.agree.steps j l ∙ slice_get-front core.run.steps s j (omega (arith, h.length)) ∙ sym (ap (λ (x : Core). step_at x.run j) g.appended)

    last : (j : ℕ) → j ≡ k → step_at T j ≡ step_at new.run j
    last j same = ap (step_at T) same ∙ e ∙ sym (last_step core new s g.appended) ∙ ap (step_at new.run) (h.length ∙ sym same)

module _ (P : Program) (T : Run) (k : ℕ) (core : Core) (js : List (Option jobs.TurnSoFar)) (h : HasCome P T k core js) where
  -- at the end the run is the trace
  pub whole : k ≡ len T → core.run ≡ T
  whole ends =
      let steps : core.run.steps ≡ T.steps = same_items core.run.steps T.steps (h.length ∙ ends) (λ j l. sym (h.agree.steps j (omega (arith, h.length)))) in
      let opening : core.run.opening ≡ T.opening = sym h.agree.opening in
      λ i. record { opening = opening i; steps = steps i }

  -- so the trace is legal
  pub all_legal : k ≡ len T → Legal P T
  all_legal ends = subst (λ (x : Run). Legal P x) (whole ends) (subst (λ (p : Program). Legal p core.run) h.program h.checker.legal)

  -- and complete where the run is
  pub completeness : (b : Bool) → k ≡ len T → IsTrue b ↔ Complete core.program core.run → IsTrue b ↔ Complete P T
  completeness b ends iff = subst (λ (x : Run). IsTrue b ↔ Complete P x) (whole ends) (subst (λ (p : Program). IsTrue b ↔ Complete p core.run) h.program iff)
