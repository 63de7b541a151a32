-- What `drill` writes for a number.
use Rattle.std.proofs.Common.{◌≡◌, ℕ, Bool, List, [], ◌∷◌, ◌++◌, ap, subst, ◌∙◌}
use Rattle.tau_sexpr.specs.Tree.{Tree}
use Rattle.tau_sexpr.specs.Printing.{printed}
use Rattle.tau_tree.specs.declared.programs.Program.{Program}
use Rattle.tau_trace.specs.Run.{Run, len}
use Rattle.tau_legal.specs.Ends.{EndsAt}
use Rattle.tau_legal.proofs.TraceLemmas.{legal_safe}
use Rattle.tau_report.specs.Report.{counts_form}
use Rattle.tau_book.specs.SerialRun.{IsSerialRun}
use Rattle.tau_gen.specs.Generated.{generated}
use Rattle.tau_output.specs.Inner.Ends.{end_of_run}
use Rattle.tau_output.specs.Drills.{steps_form, drill_lines, DrillsAs}
use Rattle.tau_output.proofs.RunLemmas.{ends}

-- forms that are added to none are the two lines
pub two_lines : (T : Run) (n : ℕ) (none one two : List Tree) (a b : Tree) → n ≡ len T → a ≡ steps_form n → b ≡ counts_form T → none ≡ [] → one ≡ none ++ a ∷ [] → two ≡ one ++ b ∷ [] → two ≡ drill_lines T
two_lines T n none one two a b count first second e f g =
    let added : two ≡ a ∷ b ∷ [] = g ∙ ap (λ (l : List Tree). l ++ b ∷ []) (f ∙ ap (λ (l : List Tree). l ++ a ∷ []) e) in
    added ∙ ap (λ (x : Tree). x ∷ b ∷ []) (first ∙ ap steps_form count) ∙ ap (λ (x : Tree). steps_form (len T) ∷ x ∷ []) second

-- what is written for a number is told of the serial run of its program
pub drills_as : (number : ℕ) (P : Program) (T : Run) (is_complete : Bool) (text : List ℕ) → P ≡ generated number → IsSerialRun P 1 number 200000 T → EndsAt 200000 P T is_complete → text ≡ printed (drill_lines T)
    → DrillsAs number (end_of_run is_complete) text
drills_as number P T is_complete text same serial ends_at is_text =
    let there : EndsAt 200000 (generated number) T is_complete = subst (λ (Q : Program). EndsAt 200000 Q T is_complete) same ends_at in
    record {
      run = T;
      well_formed = there.well_formed;
      serial = subst (λ (Q : Program). IsSerialRun Q 1 number 200000 T) same serial;
      legal = there.legal;
      safe = legal_safe (generated number) T there.well_formed there.legal;
      ends = ends 200000 (generated number) T is_complete there;
      is_text = is_text;
    }
