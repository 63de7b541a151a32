-- On one thread `run` and `drill` write one text, since there is one serial run.
use Rattle.std.proofs.Common.{◌≡◌, ℕ, suc, List, [], ◌∷◌, ◌++◌, Some, None, refl, sym, ap, subst, ◌∙◌, arith}
use Rattle.std.specs.Prelude.{slice_get}
use Rattle.tau_sexpr.specs.Tree.{Tree}
use Rattle.tau_sexpr.specs.Printing.{printed}
use Rattle.tau_tree.specs.declared.programs.Program.{Program}
use Rattle.tau_forms.specs.Printed as program_forms
use Rattle.tau_trace.specs.Run.{Run}
use Rattle.tau_trace.proofs.Lists.{same_some}
use Rattle.tau_report.proofs.Uniqueness.{report_once}
use Rattle.tau_text.specs.RunText.{trace_mark, report_mark, AreRunForms, IsRunText}
use Rattle.tau_book.specs.SerialRun.{IsSerialRun}
use Rattle.tau_book.proofs.OneRun.{one_serial_run}
use Rattle.tau_gen.specs.Generated.{generated}
use Rattle.tau_text.proofs.FaultLemmas.{program_unique}
use Rattle.tau_output.specs.declared.outputs.End.{End}
use Rattle.tau_output.specs.Runs.{EndsAs, RunsBy}
use Rattle.tau_output.specs.Drills.{drill_lines, DrillsAs}
use Rattle.tau_output.proofs.RunLemmas.{ends_once}

-- lists with the same items at each place are the same
same_items : (xs ys : List Tree) → ((k : ℕ) → slice_get xs k ≡ slice_get ys k) → xs ≡ ys
same_items [] [] same = refl
same_items [] (y ∷ ys) same = let e : None ≡ Some y = same 0 in absurd (cc)
same_items (x ∷ xs) [] same = let e : Some x ≡ None = same 0 in absurd (cc)
same_items (x ∷ xs) (y ∷ ys) same =
    let head : x ≡ y = same_some (same 0) in
    let rest : xs ≡ ys = same_items xs ys (λ k. same (suc k)) in
    λ i. head i ∷ rest i

-- a program and a run have one text
forms_once : (P : Program) (T : Run) (fs gs : List Tree) → AreRunForms P T fs → AreRunForms P T gs → fs ≡ gs
forms_once P T fs gs a b =
    let steps : a.steps ≡ b.steps = same_items a.steps b.steps (λ k. a.steps_are k ∙ sym (b.steps_are k)) in
    let report : a.report ≡ b.report = report_once P T a.report b.report a.report_is b.report_is in
    a.are ∙ (λ i. program_forms.printed P ++ (trace_mark ∷ (steps i ++ (report_mark ∷ report i)))) ∙ sym b.are

pub text_once : (P : Program) (T : Run) (text other : List ℕ) → IsRunText P T text → IsRunText P T other → text ≡ other
text_once P T text other a b = a.is ∙ ap printed (forms_once P T a.forms b.forms a.are b.are) ∙ sym b.is

pub text_of_same : (P Q : Program) (T U : Run) (text other : List ℕ) → P ≡ Q → T ≡ U → IsRunText P T text → IsRunText Q U other → text ≡ other
text_of_same P Q T U text other p t a b =
    text_once P T text other a (subst (λ X. IsRunText X T other) (sym p) (subst (λ X. IsRunText Q X other) (sym t) b))

end_of_same : (limit : ℕ) (P Q : Program) (T U : Run) (end another : End) → P ≡ Q → T ≡ U → EndsAs limit P T end → EndsAs limit Q U another → end ≡ another
end_of_same limit P Q T U end another p t a b =
    ends_once limit limit P T end another a (subst (λ X. EndsAs limit X T another) (sym p) (subst (λ X. EndsAs limit Q X another) (sym t) b))

serial_of_same : (P Q : Program) (jobs seed limit : ℕ) (T U : Run) → P ≡ Q → IsSerialRun P jobs seed limit T → IsSerialRun Q jobs seed limit U → T ≡ U
serial_of_same P Q jobs seed limit T U p a b = one_serial_run P jobs seed limit T U a (subst (λ X. IsSerialRun X jobs seed limit U) (sym p) b)

pub runs_once : (jobs seed steps : ℕ) (bytes : List ℕ) (end another : End) (text other : List ℕ) → RunsBy 1 jobs seed steps bytes end text → RunsBy 1 jobs seed steps bytes another other
    → (end ≡ another) × (text ≡ other)
runs_once jobs seed steps bytes end another text other v w =
    let P = v.runs.program in
    let Q = w.runs.program in
    let program : P ≡ Q = (program_unique bytes).one_meaning P Q v.runs.spelled w.runs.spelled in
    let run : v.runs.run ≡ w.runs.run = serial_of_same P Q jobs seed steps v.runs.run w.runs.run program (v.serial (omega arith)) (w.serial (omega arith)) in
    (end_of_same steps P Q v.runs.run w.runs.run end another program run v.runs.ends w.runs.ends, text_of_same P Q v.runs.run w.runs.run text other program run v.runs.is_text w.runs.is_text)

pub drills_once : (number : ℕ) (end another : End) (text other : List ℕ) → DrillsAs number end text → DrillsAs number another other → (end ≡ another) × (text ≡ other)
drills_once number end another text other v w =
    let P = generated number in
    let run : v.run ≡ w.run = one_serial_run P 1 number 200000 v.run w.run v.serial w.serial in
    (end_of_same 200000 P P v.run w.run end another refl run v.ends w.ends, v.is_text ∙ ap (λ T. printed (drill_lines T)) run ∙ sym w.is_text)
