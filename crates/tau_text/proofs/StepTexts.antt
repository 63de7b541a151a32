-- The texts that are put of steps.
use Rattle.std.proofs.Common.{◌≡◌, ℕ, ◌^◌, ◌<◌, ◌≤◌, List, [], ◌∷◌, ◌++◌, Result, Ok, Err, OnOk, Some, option_map, sym, ap, ◌∙◌, subst, arith}
use Rattle.std.proofs.lemmas.Option.{slice_get_within}
use Rattle.tau_sexpr.specs.Tree.{depth_of, HasWords}
use Rattle.tau_sexpr.specs.Printing.{printed, HasBytes}
use Rattle.tau_sexpr.proofs.PrintLemmas.{line_spells}
use Rattle.tau_trace.specs.declared.opening.Opening.{Opening}
use Rattle.tau_trace.specs.declared.step.Step.{Step}
use Rattle.tau_trace.specs.Run.{Run, step_at}
use Rattle.tau_trace.specs.Numbering.{born, sent, number_made}
use Rattle.tau_trace.specs.Known.{IsSound, IsKnown, WellFormed}
use Rattle.tau_trace.specs.Stored.{IsMadeAt}
use Rattle.tau_trace.proofs.Indexing.{born-le, sent-le}
use Rattle.tau_trace.proofs.Lists.{same_some}
use Rattle.tau_steps.specs.StepForms.{step_form, step_form_at, ValueIsWritten, IsWrittenAt}
use Rattle.tau_steps.proofs.StepFormLemmas.{step_form-depth, step_form-words}
use Rattle.tau_text.specs.Inner.Written.{AddsStep}

module _ (T : Run) (w : WellFormed T) (k made : ℕ) (s : Step) (o : Opening) (stands : step_at T k ≡ Some s) (is_made : IsMadeAt T k made) (fits : made < 2 ^ 32) (same : o ≡ T.opening) where
  known : IsKnown o (born T k) (sent T k) s
  known = let P : Opening → Type 0 = λ x. IsKnown x (born T k) (sent T k) s in subst P (sym same) (w.known k s stands)

  shallow : ValueIsWritten o s → depth_of (step_form o made s) ≤ 200
  shallow value = omega (arith, step_form-depth o (born T k) (sent T k) made s known value)

  words : ValueIsWritten o s → HasWords (step_form o made s)
  words value =
      let below = slice_get_within T.steps k s stands in
      step_form-words o (born T k) (sent T k) made s (subst IsSound (sym same) w.opening)
      (omega (arith, born-le T k, w.opening.few_names, w.few_steps, below))
      (omega (arith, sent-le T k, w.opening.few_targets, w.few_steps, below))
      fits known value

  form_there : Some (step_form o made s) ≡ step_form_at T k
  form_there =
      let number : made ≡ number_made s (born T k) (sent T k) = is_made s stands in
      (λ i. Some (step_form (same i) (number i) s)) ∙ sym (ap (option_map (λ r. step_form T.opening (number_made r (born T k) (sent T k)) r)) stands)

  value_there : ValueIsWritten o s → IsWrittenAt T k
  value_there value r e =
      let equal : s ≡ r = same_some (sym stands ∙ e) in
      let P : Opening → Type 0 = λ x. ValueIsWritten x s in
      let Q : Step → Type 0 = λ x. ValueIsWritten T.opening x in
      subst Q equal (subst P same value)

  -- the line of a step's form is that of the step at its place
  pub line_added : {A E : Type 0} (r : Result A E) (old new : List ℕ) → OnOk r (new ≡ old ++ printed (step_form o made s ∷ [])) → OnOk r (HasBytes (step_form o made s)) → OnOk r (ValueIsWritten o s) → OnOk r (AddsStep T k old new)
  line_added (Ok x) old new text bytes value = record {
    form = step_form o made s;
    form_is = form_there;
    value = value_there value;
    added = record { new_is = text; spelled = line_spells (step_form o made s) (shallow value) (words value) bytes };
  }
  line_added (Err x) old new text bytes value = tt
