-- The texts that are added where a run text is made.
use Rattle.std.proofs.Common.{◌≡◌, ◌⊎◌, ⊎_elim, ℕ, ◌+◌, ◌<◌, ◌≤◌, List, [], ◌∷◌, ◌++◌, append-nil, append_assoc, None, refl, sym, ap, ◌∙◌, subst, arith}
use Rattle.std.specs.Prelude.{slice_get, option_map}
use Rattle.std.proofs.lemmas.Option.{slice_get_past}
use Rattle.std.proofs.lemmas.List.{length_push}
use Rattle.tau_sexpr.specs.Tree.{Tree}
use Rattle.tau_sexpr.specs.Printing.{printed}
use Rattle.tau_sexpr.specs.Spelling.{IsSpelling, at_end}
use Rattle.tau_sexpr.proofs.PrintLemmas.{printed-append}
use Rattle.tau_tree.specs.declared.programs.Program.{Program}
use Rattle.tau_forms.specs.Printed as program_forms
use Rattle.tau_forms.specs.Meaning.{Means}
use Rattle.tau_trace.specs.Run.{Run, len, step_at}
use Rattle.tau_trace.specs.Numbering.{born, sent, number_made}
use Rattle.tau_steps.specs.StepForms.{step_form, step_form_at, IsWrittenAt}
use Rattle.tau_trace.proofs.Sequences.{cases_last}
use Rattle.tau_trace.proofs.Lists.{slice_get-front, slice_get-last}
use Rattle.tau_text.specs.RunText.{trace_mark, report_mark, AreStepForms, AreRunForms, IsRunText, IsReadBack}
use Rattle.tau_text.specs.Inner.Written.{AddsForms, AddsStep, AddsSteps, AddsReport}
use Rattle.tau_text.proofs.SpellingLemmas.{both_spelled}

-- no forms
forms_none : (old : List ℕ) → AddsForms [] old old
forms_none old = record { new_is = sym (append-nil old); spelled = at_end }

-- more forms
forms_more : (xs ys : List Tree) (old now new : List ℕ) → AddsForms xs old now → AddsForms ys now new → AddsForms (xs ++ ys) old new
forms_more xs ys old now new before here = record {
  new_is = here.new_is ∙ ap (λ bs. bs ++ printed ys) before.new_is ∙ append_assoc old (printed xs) (printed ys) ∙ ap (λ bs. old ++ bs) (sym (printed-append xs ys));
  spelled = both_spelled xs ys before.spelled here.spelled;
}

-- no steps
pub steps_none : (T : Run) (old : List ℕ) → AddsSteps T 0 old old
steps_none T old = record { steps = []; count = refl; each = λ k l. absurd (omega arith); values = λ k l. absurd (omega arith); added = forms_none old }

-- one more
pub steps_more : (T : Run) (n : ℕ) (old now new : List ℕ) → AddsStep T n now new → AddsSteps T n old now → AddsSteps T (n + 1) old new
steps_more T n old now new here before =
    let form = here.form in
    let steps = before.steps ++ form ∷ [] in
    record {
      steps = steps;
      count = omega (arith, length_push before.steps form, before.count);
      each = λ k l. ⊎_elim
          (λ (e : k ≡ n). ap (slice_get steps) (e ∙ sym before.count) ∙ slice_get-last before.steps form ∙ here.form_is ∙ ap (step_form_at T) (sym e))
          (λ (b : k < n). sym (slice_get-front before.steps form k (omega (arith, before.count))) ∙ before.each k b)
          (cases_last k n (omega arith));
      values = λ k l. ⊎_elim (λ (e : k ≡ n). subst (IsWrittenAt T) (sym e) here.value) (λ (b : k < n). before.values k b) (cases_last k n (omega arith));
      added = forms_more before.steps (form ∷ []) old now new before.added here.added;
    }

below_or_past : (k n : ℕ) → (k < n) ⊎ (n ≤ k)
below_or_past k n = grind arith

-- the forms of all steps are those at each place
all_steps : (T : Run) (old now : List ℕ) (a : AddsSteps T (len T) old now) → AreStepForms T a.steps
all_steps T old now a k = ⊎_elim (a.each k) past (below_or_past k (len T)) where
  past : len T ≤ k → slice_get a.steps k ≡ step_form_at T k
  past le =
      let none : step_at T k ≡ None = slice_get_past T.steps k le in
      slice_get_past a.steps k (omega (arith, a.count)) ∙ sym (ap (option_map (λ s. step_form T.opening (number_made s (born T k) (sent T k)) s)) none)

-- and the values of all steps are read back
all_values : (T : Run) (old now : List ℕ) → AddsSteps T (len T) old now → (k : ℕ) → IsWrittenAt T k
all_values T old now a k = ⊎_elim (a.values k) past (below_or_past k (len T)) where
  past : len T ≤ k → IsWrittenAt T k
  past le s e =
      let none : step_at T k ≡ None = slice_get_past T.steps k le in
      absurd (cc)

-- the texts of the program, the steps and the report, with their marks
pub all_written : (P : Program) (T : Run) (program marked stepped marked_again text : List ℕ) → AddsForms (program_forms.printed P) [] program → Means (program_forms.printed P) P → AddsForms (trace_mark ∷ []) program marked
    → AddsSteps T (len T) marked stepped → AddsForms (report_mark ∷ []) stepped marked_again → AddsReport P T marked_again text → IsRunText P T text × IsReadBack P T text
all_written P T program marked stepped marked_again text of_program means trace steps report rows =
    let front = forms_more (program_forms.printed P) (trace_mark ∷ []) [] program marked of_program trace in
    let middle = forms_more (program_forms.printed P ++ trace_mark ∷ []) steps.steps [] marked stepped front steps.added in
    let again = forms_more ((program_forms.printed P ++ trace_mark ∷ []) ++ steps.steps) (report_mark ∷ []) [] stepped marked_again middle report in
    let whole = forms_more (((program_forms.printed P ++ trace_mark ∷ []) ++ steps.steps) ++ report_mark ∷ []) rows.report [] marked_again text again rows.added in
    let forms : List Tree = (((program_forms.printed P ++ trace_mark ∷ []) ++ steps.steps) ++ report_mark ∷ []) ++ rows.report in
    let flat : forms ≡ program_forms.printed P ++ (trace_mark ∷ (steps.steps ++ (report_mark ∷ rows.report))) = simp append_assoc in
    let are : AreRunForms P T forms = record { steps = steps.steps; steps_are = all_steps T marked stepped steps; report = rows.report; report_is = rows.report_is; are = flat } in
    (record { forms = forms; are = are; is = whole.new_is }, record { forms = forms; are = are; spelled = subst (λ bs. IsSpelling bs forms) (sym whole.new_is) whole.spelled; program = means; values = all_values T marked stepped steps })
