-- Which turns are open after one more step.
use Rattle.std.proofs.Common.{◌≡◌, ◌≢◌, ◌⊎◌, inl, inr, ⊎_elim, ℕ, ◌<◌, true, false, IsTrue, Some, sym, ap, ◌∙◌, subst, arith}
use Rattle.std.specs.Prelude.{option_and_then}
use Rattle.tau_trace.specs.declared.step.Step.{Step}
use Rattle.tau_trace.specs.declared.step.Step.TheVariants.{Take}
use Rattle.tau_trace.specs.Steps.{actor, ends_turn}
use Rattle.tau_trace.specs.Run.{Run, step_at, len, appended, ActsAt}
use Rattle.tau_trace.specs.Turns.{Turn}
use Rattle.tau_trace.proofs.Lists.{same_some}
use Rattle.tau_trace.proofs.Agreement.{agree_appended, step_at-appended, same_at}
use Rattle.tau_trace.proofs.Indexing.{len-appended}
use Rattle.tau_trace.proofs.Sequences.{cases_last}
use Rattle.tau_past.proofs.PendingLemmas.{turns_after_step}
use Rattle.tau_legal.specs.Fits.{is_of_turn}

-- the step begins no turn
abbrev pub BeginsNone : Step → Type 0
BeginsNone s = (t m : ℕ) → s ≢ Take t m

-- a step of an open turn begins none
pub of_turn_begins_none : (s : Step) → IsTrue (is_of_turn s) → BeginsNone s
of_turn_begins_none s h t m e =
    let both : false ≡ true = sym (ap is_of_turn e) ∙ h in
    cc

module _ (T : Run) (s : Step) where
  -- a turn that is open after the step was open before it, or the step begins it
  pub earlier : (t place m : ℕ) → Turn (appended T s) t (len (appended T s)) place m → Turn T t (len T) place m ⊎ ((place ≡ len T) × (s ≡ Take t m))
  earlier t place m u = ⊎_elim (λ e. inr (e, here e)) (λ l. inl (((same_at T (appended T s) (len T) (agree_appended T s)).turn t place m).1 (there l))) (cases_last place (len T) (omega (arith, u.before, len-appended T s))) where
    here : place ≡ len T → s ≡ Take t m
    here e = same_some (sym (step_at-appended T s) ∙ ap (step_at (appended T s)) (sym e) ∙ u.takes)

    there : place < len T → Turn (appended T s) t (len T) place m
    there l = record { before = l; takes = u.takes; goes_on = λ j a b d. u.goes_on j a (omega (arith, b, len-appended T s)) d }

  -- a step that ends t's turn leaves none open
  pub ended : (t place m : ℕ) → actor s ≡ Some t → IsTrue (ends_turn s) → ¬ Turn (appended T s) t (len (appended T s)) place m
  ended t place m by ends u =
      (turns_after_step (appended T s) t (len T)).ending (record { step = s; stands = step_at-appended T s; by = by; passes = ends }) place m
      (subst (λ k. Turn (appended T s) t k place m) (len-appended T s) u)

  -- nobody else acts in the step
  not_acts : (t : ℕ) → actor s ≢ Some t → ¬ ActsAt (appended T s) t (len T)
  not_acts t ne a = ne (sym (ap (option_and_then actor) (step_at-appended T s)) ∙ a)

  -- the turns of others stay open
  pub stays_open : (t place m : ℕ) → actor s ≢ Some t → Turn T t (len T) place m → Turn (appended T s) t (len (appended T s)) place m
  stays_open t place m ne u =
      subst (λ k. Turn (appended T s) t k place m) (sym (len-appended T s))
      (((turns_after_step (appended T s) t (len T)).other (not_acts t ne) place m).1 (((same_at T (appended T s) (len T) (agree_appended T s)).turn t place m).0 u))
