-- Which step is legal at the end of a run, and what the checker keeps after it.
use Rattle.std.proofs.Common.{◌≡◌, ◌≢◌, ◌↔◌, ⊎_elim, ℕ, ◌<◌, Bool, true, false, IsTrue, Option, Some, None, List, refl, sym, ap, ◌∙◌, subst}
use Rattle.tau_tree.specs.declared.programs.Program.{Program}
use Rattle.tau_trace.specs.declared.step.Step.{Step}
use Rattle.tau_trace.specs.declared.step.Step.TheVariants.{Take, Drop, Fall, Void, Fail, Lose, Echo, Heed, Repeat}
use Rattle.tau_trace.specs.Steps.{received_by}
use Rattle.tau_trace.specs.Run.{Run, len, appended, step_at}
use Rattle.tau_trace.specs.Known.{WellFormed, IsKnownAt}
use Rattle.tau_trace.specs.Numbering.{sent}
use Rattle.tau_trace.proofs.Lists.{same_some}
use Rattle.tau_trace.proofs.Agreement.{agree_sym, agree_appended, step_at-appended}
use Rattle.tau_script.specs.Scripts.{DueStep, HasObject, is_failure}
use Rattle.tau_script.proofs.Determined.{one_step}
use Rattle.tau_legal.specs.Fits.{Fits}
use Rattle.tau_legal.specs.Traces.{Fitting, IsLegal, Legal}
use Rattle.tau_legal.proofs.TraceLemmas.{legal_same}
use Rattle.tau_eval.specs.Turn as jobs
use Rattle.tau_rules.specs.System.{Core, with_step}
use Rattle.tau_failures.proofs.DueLemmas.{due_object}
use Rattle.tau_failures.proofs.Steps.{fits_at_end}
use Rattle.tau_check.specs.Families.{turn_of}
use Rattle.tau_check.specs.Inner.Jobs.{HasJobs}
use Rattle.tau_check.specs.Inner.Checkers.{HasAsked, GoesOn}
use Rattle.tau_check.proofs.Kept.{jobs_after_due}

-- a legal trace fits
pub legal_fits : (P : Program) (T : Run) → Legal P T → Fitting P T
legal_fits P T l = record { opening = l.opening; steps = λ k s e. (l.steps k s e).fits }

-- a step of neither family is a failure
pub failure : (s : Step) → received_by s ≡ None → turn_of s ≡ None → IsTrue (is_failure s)
failure (Fail u) e f = refl
failure (Lose m) e f = refl
failure (Repeat m) e f = refl
failure (Take t n) e f = absurd (cc)
failure (Drop t n) e f = absurd (cc)
failure (Fall t n) e f = absurd (cc)
failure (Void t n) e f = absurd (cc)
failure (Echo t n) e f = absurd (cc)
failure (Heed t n) e f = absurd (cc)
failure s e f = absurd (cc)

module _ (P : Program) (T : Run) where
  -- where a step is due, another one isn't legal
  pub other_illegal : (d s : Step) → HasAsked P T (Some d) → d ≢ s → ¬ IsLegal P T (len T) s
  other_illegal d s asked ne l = ⊎_elim
      (λ (h : DueStep P.script T (len T) s). ne (same_some (one_step P.script T (len T) (Some d) (Some s) asked.due_is h)))
      (λ h. contrary (one_step P.script T (len T) None (Some d) h.0 asked.due_is))
      l.allowed where
        contrary : ¬ (None ≡ Some d)
        contrary e = cc

  -- where none is due, a failure isn't legal
  pub failure_illegal : (s : Step) → HasAsked P T None → IsTrue (is_failure s) → ¬ IsLegal P T (len T) s
  failure_illegal s asked fails_here l = ⊎_elim
      (λ (h : DueStep P.script T (len T) s). contrary (one_step P.script T (len T) None (Some s) asked.due_is h))
      (λ h. both (sym h.1 ∙ fails_here))
      l.allowed where
        contrary : ¬ (None ≡ Some s)
        contrary e = cc

        both : ¬ (false ≡ true)
        both e = cc

-- the step of a longer system
pub last_step : (old new : Core) (s : Step) → new ≡ with_step old s → step_at new.run (len old.run) ≡ Some s
last_step old new s is = ap (λ (k : Core). step_at k.run (len old.run)) is ∙ step_at-appended old.run s

-- it fits
pub last_fits : (old new : Core) (s : Step) → WellFormed old.run → WellFormed new.run → Fitting new.program new.run → new ≡ with_step old s → Fits old.program old.run (len old.run) s
last_fits old new s v w f is = fits_at_end old.program old.run s v (subst (λ (k : Core). WellFormed k.run) is w) (subst (λ (k : Core). Fitting k.program k.run) is f)

-- and is legal, so the checker goes on
pub goes_on : (old new : Core) (s : Step) (js : List (Option jobs.TurnSoFar)) → WellFormed old.run → WellFormed new.run → Legal new.program new.run → new ≡ with_step old s
    → HasJobs old.program (appended old.run s) js → GoesOn old new js s
goes_on old new s js v w legal is has =
    let long : WellFormed (appended old.run s) = subst (λ (k : Core). WellFormed k.run) is w in
    let stands = step_at-appended old.run s in
    let there : IsLegal old.program (appended old.run s) (len old.run) s = (subst (λ (k : Core). Legal k.program k.run) is legal).steps (len old.run) s stands in
    record {
      legal = legal_same old.program (appended old.run s) old.run (len old.run) s long v (agree_sym (agree_appended old.run s)) (long.known (len old.run) s stands) there;
      appended = is;
      checker = record { well_formed = w; legal = legal; has_jobs = subst (λ (k : Core). HasJobs k.program k.run js) (sym is) has };
    }

-- after the due step
pub goes_on_due : (old new : Core) (due s : Step) (js : List (Option jobs.TurnSoFar)) → HasAsked old.program old.run (Some due) → due ≡ s → HasJobs old.program old.run js
    → WellFormed new.run → Legal new.program new.run → new ≡ with_step old due → GoesOn old new js s
goes_on_due old new due s js asked same has w legal is =
    let here : new ≡ with_step old s = is ∙ ap (with_step old) same in
    let object : HasObject old.run (len old.run) s = subst (HasObject old.run (len old.run)) same (due_object old.program old.run due asked.due_is) in
    let long : WellFormed (appended old.run s) = subst (λ (k : Core). WellFormed k.run) here w in
    goes_on old new s js asked.well_formed w legal here (jobs_after_due old.program old.run s asked.well_formed long js object has)

-- a step stands at the end of the shorter run, or another one does, as the comparison tells
pub is_made : (T : Run) (p q : ℕ) (s : Step) (b : Bool) → p ≡ q → IsTrue b ↔ (step_at T p ≡ Some s) → b ≡ true → step_at T q ≡ Some s
is_made T p q s b same told is = subst (λ k. step_at T k ≡ Some s) same (told.0 is)

pub not_made : (T : Run) (p q : ℕ) (s : Step) (b : Bool) → p ≡ q → IsTrue b ↔ (step_at T p ≡ Some s) → b ≡ false → ¬ (step_at T q ≡ Some s)
not_made T p q s b same told is e =
    let both : false ≡ true = sym is ∙ told.1 (subst (λ k. step_at T k ≡ Some s) (sym same) e) in
    cc

-- as the comparison of two steps tells
pub not_same : (d s : Step) (b : Bool) → IsTrue b ↔ (d ≡ s) → b ≡ false → d ≢ s
not_same d s b told is e =
    let both : false ≡ true = sym is ∙ told.1 e in
    cc

-- a receipt names a message that exists
pub receipt_known : (T : Run) (k m : ℕ) (s : Step) → received_by s ≡ Some m → IsKnownAt T k s → m < sent T k
receipt_known T k m (Take t n) e known = subst (λ x. x < sent T k) (same_some e) known.1
receipt_known T k m (Drop t n) e known = subst (λ x. x < sent T k) (same_some e) known.1
receipt_known T k m (Fall t n) e known = subst (λ x. x < sent T k) (same_some e) known.1
receipt_known T k m (Void t n) e known = subst (λ x. x < sent T k) (same_some e) known.1
receipt_known T k m (Echo t n) e known = subst (λ x. x < sent T k) (same_some e) known.1
receipt_known T k m (Heed t n) e known = subst (λ x. x < sent T k) (same_some e) known.1
receipt_known T k m s e known = absurd (cc)
