-- No form of a program or a step is the mark behind it, so that the forms of a run text are cut at the marks in one way.
use Rattle.std.proofs.Common.{◌≡◌, ◌≢◌, ⊎_elim, ℕ, ◌<◌, ◌≤◌, ◌==◌, Bool, true, false, cond, List, [], ◌∷◌, ◌++◌, length, get_or, Option, Some, None, refl, sym, ◌∙◌, subst, arith}
use Rattle.std.specs.Prelude.{slice_get, option_map, All}
use Rattle.std.proofs.lemmas.Option.{slice_get_cases, get_or_from_slice_get}
use Rattle.std.proofs.lemmas.List.Elements.{All-nil, All-cons, All-head, All-tail, All-append, All-map}
use Rattle.tau_sexpr.specs.Tree.{Tree}
use Rattle.tau_tree.specs.Sound.{behaviour_names, start_names}
use Rattle.tau_tree.specs.declared.programs.Program.{Program}
use Rattle.tau_forms.specs.Printed as program_forms
use Rattle.tau_trace.specs.declared.step.Step.{Step}
use Rattle.tau_trace.specs.Run.{Run, step_at}
use Rattle.tau_trace.specs.Numbering.{born, sent, number_made}
use Rattle.tau_steps.specs.StepForms.{step_form}
use Rattle.tau_steps.proofs.StepFormLemmas.{no_mark}
use Rattle.tau_text.specs.RunText.{trace_mark, report_mark, AreStepForms}

-- two lists that go on with a mark which stands in neither are cut at the same place
pub cut_once : (m : Tree) (xs ys us vs : List Tree) → All (λ x. x ≢ m) xs → All (λ x. x ≢ m) ys → xs ++ (m ∷ us) ≡ ys ++ (m ∷ vs) → (xs ≡ ys) × (us ≡ vs)
cut_once m [] [] us vs hx hy e = (refl, cc)
cut_once m [] (y ∷ ys) us vs hx hy e =
    let same : y ≡ m = cc in
    absurd (All-head (λ x. x ≢ m) y ys hy same)
cut_once m (x ∷ xs) [] us vs hx hy e =
    let same : x ≡ m = cc in
    absurd (All-head (λ z. z ≢ m) x xs hx same)
cut_once m (x ∷ xs) (y ∷ ys) us vs hx hy e =
    let head : x ≡ y = cc in
    let tail : xs ++ (m ∷ us) ≡ ys ++ (m ∷ vs) = cc in
    let rest = cut_once m xs ys us vs (All-tail (λ z. z ≢ m) x xs hx) (All-tail (λ z. z ≢ m) y ys hy) tail in
    (λ i. head i ∷ rest.0 i, rest.1)

version_unmarked : (b : Bool) (v : ℕ) → All (λ x. x ≢ trace_mark) (cond b (program_forms.version_form v ∷ []) [])
version_unmarked true v = All-cons (λ x. x ≢ trace_mark) (program_forms.version_form v) [] (λ e. cc) (All-nil (λ x. x ≢ trace_mark))
version_unmarked false v = All-nil (λ x. x ≢ trace_mark)

-- no form of a program is the mark `(trace)`
pub program_unmarked : (P : Program) → All (λ x. x ≢ trace_mark) (program_forms.printed P)
program_unmarked P =
    let bs = behaviour_names P in
    let ss = start_names P in
    let U : Tree → Type 0 = λ x. x ≢ trace_mark in
    let b = All-map U (program_forms.behaviour_form bs ss) P.behaviours (λ k d lt e. cc) in
    let s = All-map U (program_forms.start_form bs ss) P.starts (λ k d lt e. cc) in
    let p = All-map U (program_forms.post_form ss) P.posts (λ k d lt e. cc) in
    let t = All-map U program_forms.entry_form P.script (λ k d lt e. cc) in
    All-append U (program_forms.version_forms P.version) _ (version_unmarked (P.version == 2) P.version) (All-cons U _ _ (λ e. cc) (All-append U _ _ (All-append U _ _ (All-append U _ _ b s) p) t))

-- no form of a step is the mark `(report)`
unmarked_at : (T : Run) (k : ℕ) (x : Tree) (o : Option Step) → Some x ≡ option_map (λ s. step_form T.opening (number_made s (born T k) (sent T k)) s) o → x ≢ report_mark
unmarked_at T k x (Some s) e m =
    let same : x ≡ step_form T.opening (number_made s (born T k) (sent T k)) s = cc in
    no_mark T.opening (number_made s (born T k) (sent T k)) s _ (sym same ∙ m)
unmarked_at T k x None e m = absurd (cc)

pub steps_unmarked : (T : Run) (steps : List Tree) → AreStepForms T steps → All (λ x. x ≢ report_mark) steps
steps_unmarked T steps are k d lt = ⊎_elim there past (slice_get_cases steps k).1 where
  there : (x : Tree) × (k < length steps) × (slice_get steps k ≡ Some x) × (get_or steps k x ≡ x) → get_or steps k d ≢ report_mark
  there (x, l, e, is) = subst (λ y. y ≢ report_mark) (sym (get_or_from_slice_get steps k x d e)) (unmarked_at T k x (step_at T k) (sym e ∙ are k))

  past : (length steps ≤ k) × (slice_get steps k ≡ None) → get_or steps k d ≢ report_mark
  past (le, e) = absurd (omega arith)
