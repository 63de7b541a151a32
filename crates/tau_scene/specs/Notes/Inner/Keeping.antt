-- What may be kept of transactors, as one pass over a trace finds it.
use Rattle.std.specs.Prelude.{◌≡◌, ℕ, ◌+◌, ◌<◌, ◌≤◌, Bool, List, Option, Some, None, slice_get, set, length}
use Rattle.tau_value.specs.declared.shared.Value.{Value}
use Rattle.tau_value.specs.Value.{val_of}
use Rattle.tau_tree.specs.declared.starts.Start.{Start}
use Rattle.tau_trace.specs.declared.step.Step.{Step}
use Rattle.tau_trace.specs.declared.step.Step.TheVariants.{Checkpoint}
use Rattle.tau_trace.specs.Run.{Run}
use Rattle.tau_trace.specs.Histories.{Closes}
use Rattle.tau_trace.specs.Points.{point_at}
use Rattle.tau_past.specs.States.{SavedWith}
use Rattle.tau_states.specs.declared.state_record.StateRecord.{StateRecord}
use Rattle.tau_states.specs.Table.{Holds}
use Rattle.tau_layout.specs.declared.lanes.Lane.{Lane}
use Rattle.tau_layout.specs.Plans.{Plan}
use Rattle.tau_scene.specs.declared.looks.looks.Ending.{Ending}
use Rattle.tau_scene.specs.declared.looks.kinds.EndLook.TheVariants as ends
use Rattle.tau_explain.specs.Links.Marks.{IsMarked}
use Rattle.tau_scene.specs.Words.Texts.{kept_text, opened_text, nothing_text}
use Rattle.tau_scene.specs.declared.notes.keeping.Kept.{Kept}
use Rattle.tau_scene.specs.Notes.Inner.Noting.{first_steps}

-- the transactor that makes a Checkpoint
abbrev pub closer : Step → Option ℕ
closer (Checkpoint t) = Some t
closer s = None

-- the Checkpoint at place j is one of t, and is marked
abbrev pub KeepsAt : Run → List Bool → ℕ → ℕ → Type 0
KeepsAt T marks t j = Closes T t j × IsMarked marks j

-- the last marked Checkpoint of t below place k, and what it saved; None where there is none
abbrev pub IsKeptBelow : Run → List Value → List Bool → ℕ → ℕ → Option Kept → Type 0
IsKeptBelow T opening marks k t None = (j : ℕ) → j < k → ¬ KeepsAt T marks t j
IsKeptBelow T opening marks k t (Some kept) =
    (kept.place < k) × KeepsAt T marks t kept.place × ((j : ℕ) → j < k → KeepsAt T marks t j → j ≤ kept.place) × SavedWith T opening t (point_at T t kept.place).interval kept.value

-- so it is for the transactor of each lane, by rank
pub record AreKept (T : Run) (opening : List Value) (lanes : List Lane) (marks : List Bool) (k : ℕ) (kept : List (Option Kept)) : Type 0 where
  pub count_is : length kept ≡ length lanes
  pub each : (rank : ℕ) (l : Lane) (o : Option Kept) → slice_get lanes rank ≡ Some l → slice_get kept rank ≡ Some o → IsKeptBelow T opening marks k l.who o

-- what is kept at a rank, if there is one, is another
abbrev pub PutsAt : Option ℕ → Kept → List (Option Kept) → List (Option Kept) → Type 0
PutsAt None one old new = new ≡ old
PutsAt (Some rank) one old new = (length new ≡ length old) × (rank < length old → new ≡ set old rank (Some one)) × (length old ≤ rank → new ≡ old)

-- what the step at place k saves is kept, where it is a marked Checkpoint, by the states behind it
abbrev pub KeepsStep : Run → Plan → List Bool → ℕ → List StateRecord → List (Option Kept) → List (Option Kept) → Type 0
KeepsStep T plan marks k records old new =
    (opening : List Value) → Holds (first_steps T (k + 1)) opening records → AreKept T opening plan.lanes marks k old → AreKept T opening plan.lanes marks (k + 1) new

-- what may be kept of a transactor, by what is kept of it and by its start
abbrev pub IsEndingOf : List (List ℕ) → Option Kept → Option Start → Ending → Type 0
IsEndingOf names (Some kept) start e = (e.look ≡ ends.Kept) × (e.text.items ≡ kept_text names (val_of kept.value) kept.place)
IsEndingOf names None (Some start) e = (e.look ≡ ends.First) × (e.text.items ≡ opened_text names (val_of start.state))
IsEndingOf names None None e = (e.look ≡ ends.None) × (e.text.items ≡ nothing_text)

-- so it is for the first n lanes
pub record AreEndingsOf (names : List (List ℕ)) (starts : List Start) (lanes : List Lane) (kept : List (Option Kept)) (n : ℕ) (ends : List Ending) : Type 0 where
  pub count_is : length ends ≡ n
  pub each : (rank : ℕ) (l : Lane) (o : Option Kept) (e : Ending) → slice_get lanes rank ≡ Some l → slice_get kept rank ≡ Some o → slice_get ends rank ≡ Some e → IsEndingOf names o (slice_get starts l.who) e
