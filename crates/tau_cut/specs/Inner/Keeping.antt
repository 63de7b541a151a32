-- The states that are kept, transactor by transactor, as one pass over the steps finds them.
use Rattle.std.specs.Prelude.{◌≡◌, ℕ, suc, ◌<◌, ◌≤◌, Bool, true, false, List, [], ◌∷◌, Option, Some, None, slice_get, set, length, codes}
use Rattle.tau_sexpr.specs.Tree.{Tree, word, headed}
use Rattle.tau_value.specs.declared.shared.Value.{Value}
use Rattle.tau_value.specs.Written.{count_form}
use Rattle.tau_trace.specs.declared.opening.Opening.{Opening}
use Rattle.tau_trace.specs.declared.step.Step.{Step}
use Rattle.tau_trace.specs.declared.step.Step.TheVariants.{Checkpoint}
use Rattle.tau_trace.specs.Run.{Run, len, starts}
use Rattle.tau_trace.specs.Numbering.{born}
use Rattle.tau_trace.specs.Histories.{Closes}
use Rattle.tau_trace.specs.Points.{point_at}
use Rattle.tau_steps.specs.StepForms.{who_form, value_form}
use Rattle.tau_past.specs.States.{SavedWith}
use Rattle.tau_states.specs.declared.state_record.StateRecord.{StateRecord}
use Rattle.tau_explain.specs.declared.chains.chained.Chained.{Chained}
use Rattle.tau_explain.specs.Texts.{chain_forms}
use Rattle.tau_explain.specs.Links.Marks.{IsMarked}
use Rattle.tau_cut.specs.declared.states.Kept.{Kept}

-- what a record tells of the interval before its own
abbrev pub kept_of : StateRecord → Kept
kept_of r = record { interval = r.interval; value = r.base }

-- what the record of transactor t tells is put at its place
abbrev pub KeepsOf : List StateRecord → ℕ → List (Option Kept) → List (Option Kept) → Type 0
KeepsOf rs t kept0 kept = (r : StateRecord) → slice_get rs t ≡ Some r → t < length kept0 → kept ≡ set kept0 t (Some (kept_of r))

-- what a step saves is kept, by the records after it
abbrev pub KeepsClosed : Step → List StateRecord → List (Option Kept) → List (Option Kept) → Type 0
KeepsClosed (Checkpoint t) rs kept0 kept = KeepsOf rs t kept0 kept
KeepsClosed s rs kept0 kept = kept ≡ kept0

-- so it is where the step is held
abbrev pub KeepsHeld : Bool → Step → List StateRecord → List (Option Kept) → List (Option Kept) → Type 0
KeepsHeld true s rs kept0 kept = KeepsClosed s rs kept0 kept
KeepsHeld false s rs kept0 kept = kept ≡ kept0

-- what is kept at first: what the records of the starts tell, and nothing of the others below a number
pub record IsKeptFirst (rs : List StateRecord) (n : ℕ) (kept : List (Option Kept)) : Type 0 where
  pub count : length rs ≤ n → length kept ≡ n
  pub starts : (t : ℕ) (r : StateRecord) → slice_get rs t ≡ Some r → slice_get kept t ≡ Some (Some (kept_of r))
  pub others : (t : ℕ) (o : Option Kept) → length rs ≤ t → slice_get kept t ≡ Some o → o ≡ None

-- with the marked steps below place k transactor t is kept with interval i
pub data KeepsBelow (T : Run) (marks : List Bool) (k t i : ℕ) : Type 0 where
  at_checkpoint : {j : ℕ} → j < k → IsMarked marks j → Closes T t j → (point_at T t j).interval ≡ i → KeepsBelow T marks k t i
  at_opening : t < starts T → i ≡ 0 → KeepsBelow T marks k t i

-- the greatest interval with which t is kept so, and what it saved with it; None where it is kept with none
abbrev pub IsKeptBelow : Run → List Value → List Bool → ℕ → ℕ → Option Kept → Type 0
IsKeptBelow T opening marks k t None = (i : ℕ) → ¬ KeepsBelow T marks k t i
IsKeptBelow T opening marks k t (Some kept) =
    (i : ℕ) × (kept.interval ≡ suc i) × KeepsBelow T marks k t i × ((j : ℕ) → KeepsBelow T marks k t j → j ≤ i) × SavedWith T opening t i kept.value

-- what is kept of each transactor that ever exists
pub record AreKept (T : Run) (opening : List Value) (marks : List Bool) (k : ℕ) (kept : List (Option Kept)) : Type 0 where
  pub count : length kept ≡ born T (len T)
  pub each : (t : ℕ) (o : Option Kept) → slice_get kept t ≡ Some o → IsKeptBelow T opening marks k t o

-- the form of a Checkpoint that is In, and that of one that is Out
abbrev pub in_form : ℕ → Tree
in_form k = headed (codes "in") (count_form k ∷ [])

abbrev pub in_front : ℕ → List Tree
in_front k = word (codes "in") ∷ count_form k ∷ []

abbrev pub out_front : ℕ → List Tree
out_front k = word (codes "out") ∷ count_form k ∷ []

abbrev pub out_form : Opening → ℕ → List Chained → Tree
out_form o k chain = headed (codes "out") (count_form k ∷ chain_forms o chain)

-- the form of a kept state: who, in which interval, and the value
abbrev pub state_form : Opening → ℕ → Kept → Tree
state_form o t kept = headed (codes "state") (who_form o t ∷ count_form kept.interval ∷ value_form o kept.value ∷ [])

-- the form of what is kept of a transactor, if anything is
abbrev pub state_row : Opening → ℕ → Option Kept → List Tree
state_row o t None = []
state_row o t (Some kept) = state_form o t kept ∷ []
