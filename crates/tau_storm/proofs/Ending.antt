-- The lines by which a run ends.
use Rattle.std.proofs.Common.{◌≡◌, ℕ, Bool, true, false, List, [], ◌∷◌, ◌++◌, cond, Option, refl, sym, ap, ◌∙◌}
use Rattle.tau_sexpr.specs.Tree.{Tree}
use Rattle.tau_sexpr.specs.Printing.{printed}
use Rattle.tau_sexpr.proofs.PrintLemmas.{printed-append}
use Rattle.tau_tree.specs.declared.programs.Program.{Program}
use Rattle.tau_trace.specs.Run.{Run}
use Rattle.tau_legal.specs.Ends.{EndsAt}
use Rattle.tau_report.specs.Report.{PutsSaved}
use Rattle.tau_cut.specs.declared.states.Kept.{Kept}
use Rattle.tau_cut.specs.Cuts.{places_in}
use Rattle.tau_cut.specs.KeptStates.{AreKeptStates, PutsStates}
use Rattle.tau_storm.specs.Outcomes.{open_form, AreOpenLines, complete, stopped, EndsWithLines}

open_lines : (P : Program) (T : Run) (limit : ℕ) (is_complete : Bool) → EndsAt limit P T is_complete → AreOpenLines P T (cond is_complete [] (open_form ∷ []))
open_lines P T limit true e = complete (e.complete refl).0
open_lines P T limit false e = stopped (e.stopped refl).0

pub ends_with : (P : Program) (T : Run) (limit : ℕ) (is_complete : Bool) (none opened saved put lines : List ℕ) {states : List (Option Kept)} → EndsAt limit P T is_complete → (kept : AreKeptStates P T states) → none ≡ [] → opened ≡ none ++ printed (cond is_complete [] (open_form ∷ []))
    → PutsSaved P T opened saved → PutsStates P T (places_in kept.marks) saved put → lines ≡ put → EndsWithLines P T lines
ends_with P T limit is_complete none opened saved put lines e kept none_is opened_is s k is =
    let front : List Tree = cond is_complete [] (open_form ∷ []) in
    let begin : opened ≡ printed front = opened_is ∙ ap (λ (l : List ℕ). l ++ printed front) none_is in
    record {
      opened = front;
      opened_are = open_lines P T limit is_complete e;
      saved = s.saved;
      saved_are = s.saved_are;
      marks = kept.marks;
      is_cut = kept.is_cut;
      kept = k.forms;
      kept_are = k.forms_are;
      is = is ∙ k.text ∙ ap (λ (l : List ℕ). l ++ printed k.forms) (s.text ∙ ap (λ (l : List ℕ). l ++ printed s.saved) begin ∙ sym (printed-append front s.saved)) ∙ sym (printed-append (front ++ s.saved) k.forms);
    }
