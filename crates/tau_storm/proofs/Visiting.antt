-- What a visit makes of a table.
use Rattle.std.proofs.Common.{◌≡◌, ℕ, Bool, List, [], ◌∷◌, ◌++◌, length, sym, ap, ◌∙◌, subst}
use Rattle.std.specs.declared.alloc.Global.{Global}
use Rattle.std.specs.declared.vec.Vec.{Vec}
use Rattle.tau_tree.specs.declared.entries.Entry.{Entry}
use Rattle.tau_tree.specs.declared.programs.Program.{Program}
use Rattle.tau_trace.specs.Run.{Run, len}
use Rattle.tau_legal.specs.Traces.{Complete}
use Rattle.tau_legal.specs.Ends.{EndsAt}
use Rattle.tau_faults.specs.Ends.{End}
use Rattle.tau_storm.specs.declared.totals.Totals.{Totals}
use Rattle.tau_storm.specs.declared.rows.Row.{Row}
use Rattle.tau_storm.specs.Outcomes.{EndsWithLines, HasLines, IsCompleteEnd}
use Rattle.tau_storm.specs.Tables.{IsTable}
use Rattle.tau_storm.specs.Inner.Counting.{totals_after, first_row, outcomes_of, AddsRow}
use Rattle.tau_storm.proofs.OneOutcome.{lines_once}
use Rattle.tau_storm.proofs.Tables.{table_after}

pub visited : (P : Program) (T : Run) (limit seed faults steps : ℕ) (is_complete : Bool) (told lines : List ℕ) (old new : List (Vec ℕ Global × Row)) (t u : Totals) → EndsAt limit P T is_complete → EndsWithLines P T told → lines ≡ told → steps ≡ len T → u ≡ totals_after t is_complete steps
    → AddsRow lines (first_row seed faults steps P.script) old new → (e : End) → e.program ≡ P → e.seed ≡ seed → length e.faults ≡ faults → e.run ≡ T
    → (ends : List End) → IsTable ends (record { outcomes = outcomes_of old; totals = t }) → IsTable (ends ++ e ∷ []) (record { outcomes = outcomes_of new; totals = u })
visited P T limit seed faults steps is_complete told lines old new t u at ends_with lines_are steps_are totals_are notes e program_is seed_is faults_are run_is ends table =
    let long : len e.run ≡ steps = ap len run_is ∙ sym steps_are in
    let script_is : e.program.script ≡ P.script = ap (λ (Q : Program). Q.script) program_is in
    let has : HasLines lines e = subst (λ (R : Run). EndsWithLines e.program R lines) (sym run_is) (subst (λ (Q : Program). EndsWithLines Q T lines) (sym program_is) (subst (EndsWithLines P T) (sym lines_are) ends_with)) in
    let n0 = subst (λ (s : List Entry). AddsRow lines (first_row seed faults steps s) old new) (sym script_is) notes in
    let n1 = subst (λ (n : ℕ). AddsRow lines (first_row seed faults n e.program.script) old new) (sym long) n0 in
    let n2 = subst (λ (n : ℕ). AddsRow lines (first_row seed n (len e.run) e.program.script) old new) (sym faults_are) n1 in
    let n3 = subst (λ (n : ℕ). AddsRow lines (first_row n (length e.faults) (len e.run) e.program.script) old new) (sym seed_is) n2 in
    let there : Complete P T → IsCompleteEnd e = λ x. subst (λ (R : Run). Complete e.program R) (sym run_is) (subst (λ (Q : Program). Complete Q T) (sym program_is) x) in
    let back : IsCompleteEnd e → Complete P T = λ x. subst (λ (Q : Program). Complete Q T) program_is (subst (λ (R : Run). Complete e.program R) run_is x) in
    table_after ends e lines old new t u is_complete (λ d a b. lines_once d.program d.run a b) has (λ x. there (at.complete x).0) (λ x y. (at.stopped x).0 (back y)) n3 (totals_are ∙ ap (λ (n : ℕ). totals_after t is_complete n) (sym long)) table
