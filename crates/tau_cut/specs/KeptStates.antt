-- The states that are kept with a set of checkpoints (docs/definitions.md, "Consistent").
use Rattle.std.specs.Prelude.{◌≡◌, ℕ, suc, ◌<◌, ◌≤◌, List, [], ◌∷◌, ◌++◌, Option, Some, None, slice_get, length, Contains, codes}
use Rattle.tau_sexpr.specs.Tree.{Tree, headed}
use Rattle.tau_sexpr.specs.Printing.{printed}
use Rattle.tau_value.specs.declared.shared.Value.{Value}
use Rattle.tau_value.specs.Written.{count_form}
use Rattle.tau_tree.specs.declared.programs.Program.{Program}
use Rattle.tau_trace.specs.Run.{Run, len, starts}
use Rattle.tau_trace.specs.Numbering.{born}
use Rattle.tau_trace.specs.Histories.{Closes}
use Rattle.tau_trace.specs.Points.{point_at}
use Rattle.tau_steps.specs.StepForms.{who_form, value_form}
use Rattle.tau_past.specs.States.{SavedWith}
use Rattle.tau_states.specs.Opening.{opening_states}
use Rattle.tau_cut.specs.declared.cut.Marked.{Marked}
use Rattle.tau_cut.specs.declared.states.Kept.{Kept}
use Rattle.tau_cut.specs.Cuts.{places_in, IsCut}

-- with these steps transactor t is kept with interval i: one of them ended the interval, or it is interval 0 of a start
pub data KeepsWith (T : Run) (steps : List ℕ) (t i : ℕ) : Type 0 where
  at_checkpoint : {k : ℕ} → Contains steps k → Closes T t k → (point_at T t k).interval ≡ i → KeepsWith T steps t i
  at_opening : t < starts T → i ≡ 0 → KeepsWith T steps t i

-- what is kept of transactor t: the interval after the greatest with which it is kept, and what it saved with that
pub record IsKept (P : Program) (T : Run) (steps : List ℕ) (t : ℕ) (kept : Kept) : Type 0 where
  pub last : ℕ
  pub keeps : KeepsWith T steps t last
  pub greatest : (i : ℕ) → KeepsWith T steps t i → i ≤ last
  pub interval_is : kept.interval ≡ suc last
  pub saved : SavedWith T (opening_states P.starts) t last kept.value

-- that, or nothing where it is kept with no interval
abbrev pub IsKeptState : Program → Run → List ℕ → ℕ → Option Kept → Type 0
IsKeptState P T steps t None = (i : ℕ) → ¬ KeepsWith T steps t i
IsKeptState P T steps t (Some kept) = IsKept P T steps t kept

-- what is kept of each transactor that ever exists, by number
pub record AreKeptWith (P : Program) (T : Run) (steps : List ℕ) (states : List (Option Kept)) : Type 0 where
  pub count : length states ≡ born T (len T)
  pub each : (t : ℕ) (state : Option Kept) → slice_get states t ≡ Some state → IsKeptState P T steps t state

-- what is kept of each with the steps that the cut marks In
pub record AreKeptStates (P : Program) (T : Run) (states : List (Option Kept)) : Type 0 where
  pub marks : List Marked
  pub is_cut : IsCut T marks
  pub are : AreKeptWith P T (places_in marks) states

-- the form for transactor t: its name or number, the interval after the greatest with which it is kept, and what it saved with
-- that
pub record IsStateForm (P : Program) (T : Run) (steps : List ℕ) (t : ℕ) (form : Tree) : Type 0 where
  pub last : ℕ
  pub keeps : KeepsWith T steps t last
  pub greatest : (i : ℕ) → KeepsWith T steps t i → i ≤ last
  pub value : Value
  pub saved : SavedWith T (opening_states P.starts) t last value
  pub form_is : form ≡ headed (codes "state") (who_form T.opening t ∷ count_form (suc last) ∷ value_form T.opening value ∷ [])

-- the forms for the transactors below a number that are kept with some interval, by number
pub data StateForms (P : Program) (T : Run) (steps : List ℕ) : ℕ → List Tree → Type 0 where
  none : StateForms P T steps 0 []
  without : {t : ℕ} {forms : List Tree} → ((i : ℕ) → ¬ KeepsWith T steps t i) → StateForms P T steps t forms → StateForms P T steps (suc t) forms
  with_one : {t : ℕ} {form : Tree} {forms : List Tree} → IsStateForm P T steps t form → StateForms P T steps t forms → StateForms P T steps (suc t) (forms ++ form ∷ [])

-- the new text is the old one and that of the printed forms of what is kept with these steps
pub record PutsStates (P : Program) (T : Run) (steps : List ℕ) (old new : List ℕ) : Type 0 where
  pub forms : List Tree
  pub forms_are : StateForms P T steps (born T (len T)) forms
  pub text : new ≡ old ++ printed forms
