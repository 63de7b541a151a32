-- What may be kept of a transactor if all else is lost (docs/formats.md, "Pictures").
use Rattle.std.specs.Prelude.{◌≡◌, ℕ, ◌≤◌, List, Contains, Some, slice_get}
use Rattle.tau_value.specs.declared.shared.Value.{Value}
use Rattle.tau_value.specs.Value.{val_of}
use Rattle.tau_tree.specs.declared.programs.Program.{Program}
use Rattle.tau_trace.specs.Run.{Run, starts}
use Rattle.tau_trace.specs.Histories.{Closes}
use Rattle.tau_trace.specs.Points.{point_at}
use Rattle.tau_past.specs.States.{SavedWith}
use Rattle.tau_states.specs.Opening.{opening_states}
use Rattle.tau_cut.specs.declared.cut.Marked.{Marked}
use Rattle.tau_cut.specs.Cuts.{places_in}
use Rattle.tau_scene.specs.Words.Texts.{kept_text, opened_text, nothing_text}
use Rattle.tau_scene.specs.declared.looks.kinds.EndLook.{EndLook}
use Rattle.tau_scene.specs.declared.looks.kinds.EndLook.TheVariants as ends

-- the Checkpoint at place k is one of t that the cut holds
abbrev pub Keeps : Run → List Marked → ℕ → ℕ → Type 0
Keeps T cut t k = Closes T t k × Contains (places_in cut) k

-- and it is the last of them
pub record KeepsLast (T : Run) (cut : List Marked) (t k : ℕ) : Type 0 where
  pub keeps : Keeps T cut t k
  pub last : (j : ℕ) → Keeps T cut t j → j ≤ k

-- what may be kept of t: what its last Checkpoint in the cut saved, else the opening state of a start, else nothing; the text stands
-- behind the name
abbrev pub IsEnding : Program → Run → List Marked → ℕ → EndLook → List ℕ → Type 0
IsEnding P T cut t ends.Kept text = (k : ℕ) × (v : Value) × KeepsLast T cut t k × SavedWith T (opening_states P.starts) t (point_at T t k).interval v × (text ≡ kept_text T.opening.names (val_of v) k)
IsEnding P T cut t ends.First text = ((k : ℕ) → ¬ Keeps T cut t k) × (v : Value) × (slice_get (opening_states P.starts) t ≡ Some v) × (text ≡ opened_text T.opening.names (val_of v))
IsEnding P T cut t ends.None text = ((k : ℕ) → ¬ Keeps T cut t k) × (starts T ≤ t) × (text ≡ nothing_text)
