-- Whether a run is complete.
use Rattle.std.proofs.Common.{◌≡◌, ◌↔◌, Bool, true, false, IsTrue, Option, Some, None}
use Rattle.std.specs.Option.{is_some}
use Rattle.tau_tree.specs.declared.programs.Program.{Program}
use Rattle.tau_trace.specs.Run.{Run, len}
use Rattle.tau_script.specs.Scripts.{IsDue, NoneDue}
use Rattle.tau_script.proofs.Determined.{one_step}
use Rattle.tau_legal.specs.Traces.{Complete}
use Rattle.tau_failures.specs.declared.dues.Due.{Due}
use Rattle.tau_failures.specs.Dues.{step_of, due_step}
use Rattle.tau_failures.specs.LegalRun.{NothingLeft}

-- a run after which a step is due isn't complete
pub due_incomplete : (P : Program) (T : Run) (due : Option Due) → IsDue P.script T (len T) (due_step due) → is_some due ≡ true → ¬ Complete P T
due_incomplete P T None is some whole = absurd (cc)
due_incomplete P T (Some d) is some whole =
    let same : Some (step_of d) ≡ None = one_step P.script T (len T) (Some (step_of d)) None is whole.none_due in
    cc

none_due : (P : Program) (T : Run) (due : Option Due) → IsDue P.script T (len T) (due_step due) → is_some due ≡ false → NoneDue P.script T (len T)
none_due P T None is none = is
none_due P T (Some d) is none = absurd (cc)

-- the others are complete where no turn is open and no message in flight
pub complete_where : (P : Program) (T : Run) (due : Option Due) (b : Bool) → IsDue P.script T (len T) (due_step due) → is_some due ≡ false → IsTrue b ↔ NothingLeft T → IsTrue b ↔ Complete P T
complete_where P T due b is none told = (
  λ h. record { none_due = none_due P T due is none; no_turn = (told.0 h).no_turn; none_in_flight = (told.0 h).none_in_flight },
  λ whole. told.1 (record { no_turn = whole.no_turn; none_in_flight = whole.none_in_flight }),
)
