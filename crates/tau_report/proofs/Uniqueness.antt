-- A program and a run have one report.
use Rattle.std.proofs.Common.{◌≡◌, ℕ, suc, List, [], ◌∷◌, ◌++◌, refl, sym, ap, ◌∙◌, subst, arith}
use Rattle.tau_sexpr.specs.Tree.{Tree}
use Rattle.tau_tree.specs.declared.programs.Program.{Program}
use Rattle.tau_trace.specs.Run.{Run, len}
use Rattle.tau_trace.specs.Numbering.{born}
use Rattle.tau_past.specs.States.{SavedWith}
use Rattle.tau_states.specs.Opening.{opening_states}
use Rattle.tau_states.proofs.Uniqueness.{saved_once}
use Rattle.tau_report.specs.Report.{IsSavedForm, SavedForms, none, without, with_one, counts_form, IsReport}
use Rattle.tau_report.specs.Inner.Rows.{saved_form}

form_once : (P : Program) (T : Run) (t : ℕ) (f g : Tree) → IsSavedForm P T t f → IsSavedForm P T t g → f ≡ g
form_once P T t f g a b =
    let same : b.before ≡ a.before = omega (arith, a.interval_is, b.interval_is) in
    let Q : ℕ → Type 0 = λ n. SavedWith T (opening_states P.starts) t n b.value in
    let value : a.value ≡ b.value = saved_once T (opening_states P.starts) t a.before a.value b.value a.saved (subst Q same b.saved) in
    a.form_is ∙ (λ i. saved_form T.opening t (suc (sym same i)) (value i)) ∙ sym b.form_is

pub saved_forms_once : (P : Program) (T : Run) (n : ℕ) (fs gs : List Tree) → SavedForms P T n fs → SavedForms P T n gs → fs ≡ gs
saved_forms_once P T n fs gs none none = refl
saved_forms_once P T n fs gs (without not a) (without nor b) = saved_forms_once P T _ _ _ a b
saved_forms_once P T n fs gs (without not a) (with_one one b) = absurd (not one.has)
saved_forms_once P T n fs gs (with_one one a) (without not b) = absurd (not one.has)
saved_forms_once P T n fs gs (with_one {t = t} {form = f} {forms = fronts} one a) (with_one {form = g} {forms = backs} other b) =
    let same = saved_forms_once P T t fronts backs a b in
    let forms = form_once P T t f g one other in
    λ i. same i ++ forms i ∷ []

pub report_once : (P : Program) (T : Run) (fs gs : List Tree) → IsReport P T fs → IsReport P T gs → fs ≡ gs
report_once P T fs gs a b = a.is ∙ ap (λ x. x ++ counts_form T ∷ []) (saved_forms_once P T (born T (len T)) a.saved b.saved a.saved_are b.saved_are) ∙ sym b.is
