-- What is written of a program, or of a program and a run, is read back as it.
use Rattle.std.proofs.Common.{◌≡◌, ℕ, ◌<◌, true, false, List, [], ◌∷◌, ◌++◌, length, get_or, Some, refl, sym, ap, ◌∙◌, subst, codes}
use Rattle.std.specs.Prelude.{slice_get, All}
use Rattle.std.proofs.lemmas.Option.{get_or_from_slice_get}
use Rattle.tau_sexpr.specs.Tree.{Tree}
use Rattle.tau_sexpr.specs.Printing.{printed}
use Rattle.tau_sexpr.specs.Spelling.{IsSpelling}
use Rattle.tau_tree.specs.declared.programs.Program.{Program}
use Rattle.tau_forms.specs.Printed as program_forms
use Rattle.tau_forms.specs.Meaning.{Means}
use Rattle.tau_trace.specs.declared.opening.Opening.{Opening}
use Rattle.tau_trace.specs.Run.{Run}
use Rattle.tau_script.specs.Openings.{program_opening}
use Rattle.tau_steps.specs.Meaning.{MeansSteps}
use Rattle.tau_steps.proofs.LawLemmas.{printed_trace}
use Rattle.tau_steps.proofs.LoopLemmas.{no_steps}
use Rattle.tau_text.specs.RunText.{trace_mark, report_mark}
use Rattle.tau_text.proofs.MarkedForms.{program_unmarked, steps_unmarked}
use Rattle.tau_text.specs.Parts as parts
use Rattle.tau_text.specs.Parts.{is_mark, before, behind, has_trace, step_forms}
use Rattle.tau_text.specs.Meaning.{MeansRun, IsPrintInput}
use Rattle.tau_text.specs.InputLaws.{RunTextsAreReadBack}
use Rattle.tau_text.proofs.MarkLemmas.{not_mark}
use Rattle.tau_text.proofs.PartLemmas.{no_mark, all_before, none_behind, cut_before, cut_behind, cut_marked}

-- a run with no steps
abbrev pub empty_run : Opening → Run
empty_run o = record { opening = o; steps = [] }

-- where no `(trace)` stands among forms that mean a program, they mean it and a run with no steps
pub unmarked_run : (ts : List Tree) (p : Program) → length (parts.program_forms ts) ≡ length ts → Means ts p → MeansRun ts p (empty_run (program_opening p))
unmarked_run ts p e m =
    let o = program_opening p in
    let none : step_forms ts ≡ [] = ap (before (codes "report")) (none_behind (codes "trace") ts e) in
    record {
      program = subst (λ x. Means x p) (sym (all_before (codes "trace") ts e)) m;
      steps = subst (λ x. MeansSteps o x (empty_run o)) (sym none) (no_steps o);
    }

-- no printed form of a program is the mark `(trace)`
printed_unmarked : (p : Program) → All (λ x. is_mark (codes "trace") x ≡ false) (program_forms.printed p)
printed_unmarked p k d l = not_mark (codes "trace") (get_or (program_forms.printed p) k d) (program_unmarked p k d l)

printed_all : (ts : List Tree) → All (λ x. is_mark (codes "trace") x ≡ false) ts → length (parts.program_forms ts) ≡ length ts
printed_all ts none = no_mark (codes "trace") ts (λ k u l at. at_place ts k u l at (none k u l))
  where
    at_place : (ts : List Tree) (k : ℕ) (u : Tree) → k < length ts → slice_get ts k ≡ Some u → is_mark (codes "trace") (get_or ts k u) ≡ false → is_mark (codes "trace") u ≡ false
    at_place ts k u l at n = subst (λ x. is_mark (codes "trace") x ≡ false) (get_or_from_slice_get ts k u u at) n

-- a text that is put behind nothing
pub alone_spelled : (ts : List Tree) (old new : List ℕ) → old ≡ [] → new ≡ old ++ printed ts → IsSpelling (printed ts) ts → IsSpelling new ts
alone_spelled ts old new none text s = subst (λ bs. IsSpelling bs ts) (sym (text ∙ ap (λ bs. bs ++ printed ts) none)) s

-- the text of a program is read back
pub program_read_back : (p : Program) (text : List ℕ) → Means (program_forms.printed p) p → IsSpelling text (program_forms.printed p) → IsPrintInput text p
program_read_back p text m s = record {
  forms = program_forms.printed p;
  spelled = s;
  run = empty_run (program_opening p);
  means = unmarked_run (program_forms.printed p) p (printed_all (program_forms.printed p) (printed_unmarked p)) m;
}

-- the run text of a program and a run is read back
pub run_texts_read_back : RunTextsAreReadBack
run_texts_read_back p T text t =
    let back = t.read_back in
    let are = back.are in
    let whole : List Tree = program_forms.printed p ++ (trace_mark ∷ (are.steps ++ (report_mark ∷ are.report))) in
    let step_marks : All (λ x. is_mark (codes "report") x ≡ false) are.steps = λ k d l. not_mark (codes "report") (get_or are.steps k d) (steps_unmarked T are.steps are.steps_are k d l) in
    let program : parts.program_forms whole ≡ program_forms.printed p = cut_before (codes "trace") trace_mark (program_forms.printed p) _ (printed_unmarked p) refl in
    let rest : behind (codes "trace") whole ≡ are.steps ++ (report_mark ∷ are.report) = cut_behind (codes "trace") trace_mark (program_forms.printed p) _ (printed_unmarked p) refl in
    let steps : step_forms whole ≡ are.steps = ap (before (codes "report")) rest ∙ cut_before (codes "report") report_mark are.steps are.report step_marks refl in
    let marked : has_trace whole ≡ true = cut_marked (codes "trace") trace_mark (program_forms.printed p) _ refl in
    let means_steps : MeansSteps (program_opening p) are.steps T = subst (λ o. MeansSteps o are.steps T) t.opening (printed_trace T are.steps t.well_formed back.values are.steps_are) in
    let means_whole : MeansRun whole p T = record {
      program = subst (λ x. Means x p) (sym program) back.program;
      steps = subst (λ x. MeansSteps (program_opening p) x T) (sym steps) means_steps;
    } in
    let means : MeansRun back.forms p T = subst (λ x. MeansRun x p T) (sym are.are) means_whole in
    let has : has_trace back.forms ≡ true = ap has_trace are.are ∙ marked in
    (record { forms = back.forms; spelled = back.spelled; means = (has, means) }, record { forms = back.forms; spelled = back.spelled; run = T; means = means })
