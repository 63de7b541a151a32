-- The text of a step of a run.
use Rattle.std.proofs.Common.{◌≡◌, ◌↔◌, true, Bool, ℕ, ◌-◌, List, [], ◌∷◌, Option, Some, sym, ◌∙◌, ap, subst, arith}
use Rattle.std.specs.Prelude.{option_map, IsTrue}
use Rattle.std.proofs.lemmas.List.{take_at}
use Rattle.std.proofs.lemmas.Option.{slice_get_within}
use Rattle.tau_sexpr.specs.Tree.{Tree}
use Rattle.tau_sexpr.specs.Printing.{printed}
use Rattle.tau_sexpr.specs.Spelling.{IsSpelling}
use Rattle.tau_trace.specs.declared.step.Step.{Step}
use Rattle.tau_trace.specs.Run.{Run, len, step_at, appended}
use Rattle.tau_trace.specs.Numbering.{born, sent, number_made}
use Rattle.tau_trace.specs.Known.{WellFormed}
use Rattle.tau_trace.proofs.Agreement.{step_at-appended, born-same, sent-same}
use Rattle.tau_trace.proofs.Lists.{same_some}
use Rattle.tau_trace.proofs.Indexing.{len-appended, made_same}
use Rattle.tau_trace.proofs.Prefix.{run_of, prefix, agree_prefix, len-prefix, may_follow_prefix}
use Rattle.tau_steps.specs.StepForms.{step_form, step_form_at, IsWrittenAt}
use Rattle.tau_steps.specs.Meaning.{MeansStep}
use Rattle.tau_steps.specs.Laws.{PrintedStepsMeanThemselves}
use Rattle.tau_run_journal.specs.Standing.{form_behind, IsStepText}

module _ (T : Run) (k : ℕ) (s : Step) (w : WellFormed T) (stands : step_at T k ≡ Some s) where
  long : len (prefix T k) ≡ k
  long = len-prefix T k (omega (arith, slice_get_within T.steps k s stands))

  born_is : born T k ≡ born (prefix T k) (len (prefix T k))
  born_is = born-same k (agree_prefix T k) ∙ ap (born (prefix T k)) (sym long)

  sent_is : sent T k ≡ sent (prefix T k) (len (prefix T k))
  sent_is = sent-same k (agree_prefix T k) ∙ ap (sent (prefix T k)) (sym long)

  -- the form of the step
  form_is : step_form_at T k ≡ Some (form_behind (prefix T k) s)
  form_is =
      ap (λ (o : Option Step). option_map (λ (r : Step). step_form T.opening (number_made r (born T k) (sent T k)) r) o) stands
      ∙ ap (λ (n : ℕ). Some (step_form T.opening n s)) (made_same s (born T k) (born (prefix T k) (len (prefix T k))) (sent T k) (sent (prefix T k) (len (prefix T k))) born_is sent_is)

  means : PrintedStepsMeanThemselves → IsWrittenAt T k → MeansStep T.opening (born (prefix T k) (len (prefix T k))) (sent (prefix T k) (len (prefix T k))) (form_behind (prefix T k) s) s
  means law written =
      subst (λ (n : ℕ). MeansStep T.opening (born (prefix T k) (len (prefix T k))) n (form_behind (prefix T k) s) s) sent_is
      (subst (λ (n : ℕ). MeansStep T.opening n (sent T k) (form_behind (prefix T k) s) s) born_is
      (law T w k (form_behind (prefix T k) s) s written form_is stands))

  text_of : PrintedStepsMeanThemselves → IsWrittenAt T k → (f : Tree) (v : List ℕ) → Some f ≡ step_form_at T k → v ≡ printed (f ∷ []) → IsSpelling (printed (f ∷ [])) (f ∷ []) → IsStepText (prefix T k) s v
  text_of law written f v is text spelled =
      let same : f ≡ form_behind (prefix T k) s = same_some (is ∙ form_is) in
      record {
        may = may_follow_prefix T k s w stands;
        is = text ∙ ap (λ (g : Tree). printed (g ∷ [])) same;
        spelled = subst (λ (g : Tree). IsSpelling v (g ∷ [])) same (subst (λ (l : List ℕ). IsSpelling l (f ∷ [])) (sym text) spelled);
        means = means law written;
      }

-- the run before its last step
prefix_appended : (T : Run) (s : Step) → prefix (appended T s) (len T) ≡ T
prefix_appended T s = ap (run_of T.opening) (take_at T.steps (s ∷ []) (len T) (omega arith))

-- the text of the last step
module _ (law : PrintedStepsMeanThemselves) (U : Run) (w : WellFormed U) (k : ℕ) (last : k ≡ len U - 1) (written : IsWrittenAt U k) where
  pub last_text : (f : Tree) (v : List ℕ) → Some f ≡ step_form_at U k → v ≡ printed (f ∷ []) → IsSpelling (printed (f ∷ [])) (f ∷ []) → (T : Run) (s : Step) → U ≡ appended T s → IsStepText T s v
  last_text f v is text spelled T s same =
      let place : k ≡ len T = omega (arith, last, ap len same, len-appended T s) in
      let stands : step_at U k ≡ Some s = (λ i. step_at (same i) (place i)) ∙ step_at-appended T s in
      let before : prefix U k ≡ T = (λ i. prefix (same i) (place i)) ∙ prefix_appended T s in
      subst (λ (R : Run). IsStepText R s v) before (text_of U k s w stands law written f v is text spelled)

-- a step has one text
pub one_text : (T : Run) (s : Step) (q r : List ℕ) → IsStepText T s q → IsStepText T s r → q ≡ r
one_text T s q r one two = one.is ∙ sym two.is

-- a record is compared with the text
pub text_told : (T : Run) (s : Step) (v r : List ℕ) (b : Bool) → IsStepText T s v → (b ≡ true → v ≡ r) → (v ≡ r → b ≡ true) → IsTrue b ↔ IsStepText T s r
text_told T s v r b text there back = (λ yes. subst (IsStepText T s) (there yes) text, λ other. back (one_text T s v r text other))
