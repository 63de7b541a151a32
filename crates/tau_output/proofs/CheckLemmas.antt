-- What `check` writes for a run.
use Rattle.std.proofs.Common.{inl, inr, Bool, true, false, ◌↔◌, IsTrue, refl}
use Rattle.tau_tree.specs.declared.programs.Program.{Program}
use Rattle.tau_trace.specs.Run.{Run}
use Rattle.tau_trace.specs.Known.{WellFormed}
use Rattle.tau_legal.specs.Traces.{Complete}
use Rattle.tau_legal.proofs.TraceLemmas.{legal_safe}
use Rattle.tau_check.specs.Legality.{IsLegality}
use Rattle.tau_check.specs.declared.checking.Legality.{Legality}
use Rattle.tau_check.specs.declared.checking.Legality.TheVariants as checks
use Rattle.tau_output.specs.Checks.{IsLegalLine, IsChecked}
use Rattle.tau_output.specs.Inner.Ends.{end_of_check, line_of_check}

-- the line for a legal run
legal_line : (P : Program) (T : Run) (complete : Bool) → (IsTrue complete ↔ Complete P T) → IsLegalLine P T (line_of_check (checks.Legal complete))
legal_line P T true same = inl (same.0 refl, refl)
legal_line P T false same = inr ((λ h. let no : IsTrue false = same.1 h in absurd (cc)), refl)

pub is_checked : (P : Program) (T : Run) (legality : Legality) → WellFormed T → IsLegality P T legality → IsChecked P T (end_of_check legality) (line_of_check legality)
is_checked P T (checks.Legal complete) well h = (h.0, legal_safe P T well h.0, legal_line P T complete h.1)
is_checked P T (checks.Bad place) well h = (h, refl)
