-- The forms that are written from the records of transactors and from counts.
use Rattle.std.specs.Prelude.{◌≡◌, ℕ, ◌≤◌, Bool, ◌||◌, ◌==◌, List, [], ◌∷◌, ◌++◌, if◌then◌else◌, IsFalse, All, codes}
use Rattle.tau_sexpr.specs.Tree.{Tree, depths, HasWords, headed}
use Rattle.tau_sexpr.specs.Printing.{printed, HasBytes}
use Rattle.tau_value.specs.declared.shared.Value.{Value}
use Rattle.tau_value.specs.Sizes.{IsInBounds}
use Rattle.tau_value.specs.Value.{val_of}
use Rattle.tau_value.specs.Written.{count_form, IsWritten}
use Rattle.tau_tree.specs.declared.programs.Program.{Program}
use Rattle.tau_trace.specs.Run.{Run}
use Rattle.tau_trace.specs.Known.{WellFormed}
use Rattle.tau_trace.specs.declared.opening.Opening.{Opening}
use Rattle.tau_steps.specs.StepForms.{who_form, value_form}
use Rattle.tau_states.specs.declared.state_record.StateRecord.{StateRecord}
use Rattle.tau_report.specs.declared.counts.Counts.{Counts}
use Rattle.tau_states.specs.Opening.{opening_states}
use Rattle.tau_states.specs.Table.{Holds}
use Rattle.tau_report.specs.Report.{count_of, SavedForms}

-- the form of a saved state: who, in which interval, and the value
abbrev pub saved_form : Opening → ℕ → ℕ → Value → Tree
saved_form o t i v = headed (codes "saved") (who_form o t ∷ count_form i ∷ value_form o v ∷ [])

-- the transactor has ended or is at interval 0
abbrev pub is_unlisted : StateRecord → Bool
is_unlisted r = r.ended || (r.interval == 0)

-- the form of a transactor's saved state, if it has one and has not ended
abbrev pub saved_row : Opening → ℕ → StateRecord → List Tree
saved_row o t r = if is_unlisted r then [] else saved_form o t r.interval r.base ∷ []

-- the value of the form, if there is one, is read back as it is
abbrev pub IsRowWritten : Opening → StateRecord → Type 0
IsRowWritten o r = IsFalse (is_unlisted r) → IsWritten o.names (val_of r.base)

-- the form of counts
abbrev pub counts_tree : Counts → Tree
counts_tree c = headed (codes "counts") (count_of (codes "checkpoints") c.checkpoints ∷ count_of (codes "holds") c.holds ∷ count_of (codes "drops") c.drops ∷ count_of (codes "falls") c.falls ∷ count_of (codes "losses") c.losses ∷ [])

-- forms that can be printed: at most 65 lists deep, and no word is empty
pub record ArePrintable (forms : List Tree) : Type 0 where
  pub depth : depths forms ≤ 65
  pub words : All HasWords forms

-- whatever program and run the records are of, the forms are those of the first n transactors, and can be printed
abbrev pub AreRows : Opening → List StateRecord → ℕ → List Tree → Type 0
AreRows o records n forms =
    (P : Program) (T : Run) → WellFormed T → T.opening ≡ o → All (λ v. IsInBounds (val_of v)) (opening_states P.starts)
    → Holds T (opening_states P.starts) records → SavedForms P T n forms × ArePrintable forms

-- the new text is the old one and that of the rows of the first n transactors
pub record PutsRows (o : Opening) (records : List StateRecord) (n : ℕ) (old new : List ℕ) : Type 0 where
  pub forms : List Tree
  pub rows : AreRows o records n forms
  pub text : new ≡ old ++ printed forms
  pub bytes : All HasBytes forms
