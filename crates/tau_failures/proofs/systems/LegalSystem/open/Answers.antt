use Rattle.std.proofs.Common.{◌≡◌, ◌∙◌, inr, [], sym, ap, subst}
use Rattle.tau_tree.specs.declared.programs.Program.{Program}
use Rattle.tau_tree.specs.Sound.{Sound}
use Rattle.tau_trace.specs.Run.{Run, len}
use Rattle.tau_script.specs.declared.cursor.Cursor.{Cursor}
use Rattle.tau_script.specs.Cursors.{ComesTo}
use Rattle.tau_script.specs.Openings.{program_opening}
use Rattle.tau_failures.proofs.Steps.{legal_first}
use Rattle.tau_failures.proofs.systems.LegalSystem.open.Goals as goal

pub invariant_of-result : goal.invariant_of-result
invariant_of-result g c =
    let P : Program = c.in_ok-system.system.program in
    let T : Run = c.in_ok-system.system.run in
    let first : Cursor = c.first-cursor.result in
    let is : T ≡ record { opening = program_opening P; steps = [] } = c.in_ok-system.ensures.run ∙ ap (λ (p : Program). record { opening = program_opening p; steps = [] }) (sym c.in_ok-system.ensures.program) in
    let comes : ComesTo P.script T (len T) first = subst (λ (x : Run). ComesTo P.script x (len x) first) (sym is) c.first-cursor.ensures in
    record {
      sound = subst Sound (sym c.in_ok-system.ensures.program) c.requires;
      well_formed = c.due_by-due.ensures.well_formed;
      legal = legal_first P T is;
      cursor_is = c.due_by-due.ensures.current (inr comes);
    }
