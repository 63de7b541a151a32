-- The report of a program and a trace (docs/formats.md, "Report").
use Rattle.std.specs.Prelude.{◌≡◌, ℕ, suc, ◌<◌, ◌≤◌, Bool, true, false, List, [], ◌∷◌, ◌++◌, option_and_then, codes}
use Rattle.std.specs.Option.{option_map_or}
use Rattle.tau_sexpr.specs.Tree.{Tree, headed}
use Rattle.tau_sexpr.specs.Printing.{printed}
use Rattle.tau_sexpr.specs.Spelling.{IsSpelling}
use Rattle.tau_history.specs.Timeline.{interval}
use Rattle.tau_value.specs.declared.shared.Value.{Value}
use Rattle.tau_value.specs.Written.{count_form}
use Rattle.tau_tree.specs.declared.programs.Program.{Program}
use Rattle.tau_trace.specs.declared.step.Step.{Step}
use Rattle.tau_trace.specs.declared.step.Step.TheVariants.{Drop, Hold, Lose}
use Rattle.tau_trace.specs.Steps.{actor, is_checkpoint}
use Rattle.tau_trace.specs.Places.{count_below}
use Rattle.tau_trace.specs.Run.{Run, len, step_at}
use Rattle.tau_trace.specs.Numbering.{born}
use Rattle.tau_trace.specs.Histories.{history, IsLiving, move_at, is_fall}
use Rattle.tau_steps.specs.StepForms.{who_form, value_form}
use Rattle.tau_past.specs.States.{SavedWith}
use Rattle.tau_states.specs.Opening.{opening_states}
use Rattle.tau_report.specs.declared.counts.Counts.{Counts}

-- transactor t has a saved state after the trace: it is at interval 1 or more, and it has not ended
pub record HasSaved (T : Run) (t : ℕ) : Type 0 where
  pub exists : t < born T (len T)
  pub closed : 1 ≤ interval (history T t (len T))
  pub living : IsLiving T t (len T)

-- the form for transactor t: its name or number, its interval, and what it saved with the interval before
pub record IsSavedForm (P : Program) (T : Run) (t : ℕ) (form : Tree) : Type 0 where
  pub has : HasSaved T t
  pub before : ℕ
  pub interval_is : interval (history T t (len T)) ≡ suc before
  pub value : Value
  pub saved : SavedWith T (opening_states P.starts) t before value
  pub form_is : form ≡ headed (codes "saved") (who_form T.opening t ∷ count_form (suc before) ∷ value_form T.opening value ∷ [])

-- the forms for the transactors below a number that have a saved state, by number
pub data SavedForms (P : Program) (T : Run) : ℕ → List Tree → Type 0 where
  none : SavedForms P T 0 []
  without : {t : ℕ} {forms : List Tree} → ¬ HasSaved T t → SavedForms P T t forms → SavedForms P T (suc t) forms
  with_one : {t : ℕ} {form : Tree} {forms : List Tree} → IsSavedForm P T t form → SavedForms P T t forms → SavedForms P T (suc t) (forms ++ form ∷ [])

-- how many steps of the trace pass the test
abbrev pub steps_with : (Step → Bool) → Run → ℕ
steps_with test T = count_below (λ k. option_map_or test (step_at T k) false) (len T)

abbrev pub is_hold : Step → Bool
is_hold (Hold t) = true
is_hold s = false

abbrev pub is_drop : Step → Bool
is_drop (Drop t m) = true
is_drop s = false

abbrev pub is_lose : Step → Bool
is_lose (Lose m) = true
is_lose s = false

-- whether a falling step stands at place k
abbrev pub falls_at : Run → ℕ → Bool
falls_at T k = option_map_or (λ t. is_fall (move_at T t k)) (option_and_then actor (step_at T k)) false

-- how many falling steps the trace has
abbrev pub falling_steps : Run → ℕ
falling_steps T = count_below (falls_at T) (len T)

-- the counts of a run
abbrev pub counts_in : Run → Counts
counts_in T = record {
  checkpoints = steps_with is_checkpoint T;
  holds = steps_with is_hold T;
  drops = steps_with is_drop T;
  falls = falling_steps T;
  losses = steps_with is_lose T;
}

-- one count with its word
abbrev pub count_of : List ℕ → ℕ → Tree
count_of name n = headed name (count_form n ∷ [])

-- the Checkpoint, Hold and Drop steps, the falling steps of all kinds, and the Lose steps
abbrev pub counts_form : Run → Tree
counts_form T =
    headed (codes "counts") (count_of (codes "checkpoints") (steps_with is_checkpoint T) ∷ count_of (codes "holds") (steps_with is_hold T) ∷ count_of (codes "drops") (steps_with is_drop T) ∷ count_of (codes "falls") (falling_steps T) ∷ count_of (codes "losses") (steps_with is_lose T) ∷ [])

-- the forms of the report: the saved states by transactor, then the counts
pub record IsReport (P : Program) (T : Run) (forms : List Tree) : Type 0 where
  pub saved : List Tree
  pub saved_are : SavedForms P T (born T (len T)) saved
  pub is : forms ≡ saved ++ counts_form T ∷ []

-- the bytes are those of the printed forms of the report
pub record IsReportText (P : Program) (T : Run) (bytes : List ℕ) : Type 0 where
  pub forms : List Tree
  pub report : IsReport P T forms
  pub text : bytes ≡ printed forms

-- the new text is the old one and that of the printed forms of the saved states
pub record PutsSaved (P : Program) (T : Run) (old new : List ℕ) : Type 0 where
  pub saved : List Tree
  pub saved_are : SavedForms P T (born T (len T)) saved
  pub text : new ≡ old ++ printed saved

-- the new text is the old one and that of the printed forms of the report, which it spells
pub record PutsReport (P : Program) (T : Run) (old new : List ℕ) : Type 0 where
  pub forms : List Tree
  pub report : IsReport P T forms
  pub text : new ≡ old ++ printed forms
  pub spelled : IsSpelling (printed forms) forms
