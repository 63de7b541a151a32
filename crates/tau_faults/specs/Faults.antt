-- Which faults can come at a place of a run, and the program with one of them (docs/definitions.md, "Storm").
use Rattle.std.specs.Prelude.{◌≡◌, ◌⊎◌, ◌↔◌, ◌<◌, ◌%◌, ◌-◌, ◌++◌, ◌∷◌, ℕ, List, Contains, length, take, drop}
use Rattle.std.specs.List.{AllPairs}
use Rattle.tau_value.specs.declared.limits.TheConstants.{ENTRY_LIMIT}
use Rattle.tau_tree.specs.declared.entries.Entry.{Entry}
use Rattle.tau_tree.specs.declared.entries.Failure.{Failure}
use Rattle.tau_tree.specs.declared.entries.Failure.TheVariants.{Fail, Lose, Repeat}
use Rattle.tau_tree.specs.declared.programs.Program.{Program}
use Rattle.tau_trace.specs.Run.{Run, len}
use Rattle.tau_trace.specs.Numbering.{InFlight}
use Rattle.tau_trace.specs.Nodes.{LivesAt}
use Rattle.tau_script.specs.declared.cursor.Cursor.{Cursor}
use Rattle.tau_script.specs.Cursors.{CursorAt}
use Rattle.tau_script.specs.Scripts.{NoneDue}
use Rattle.tau_faults.specs.declared.setting.FaultCounts.{FaultCounts}

-- the entries with one more, before entry number c
abbrev pub inserted : List Entry → ℕ → Entry → List Entry
inserted S c e = take c S ++ e ∷ drop c S

-- the program with one more entry in its script, before entry number c
abbrev pub with_entry : Program → ℕ → Entry → Program
with_entry P c e = record P { script = inserted P.script c e }

-- the fault does something after the steps before place k: a node fails on which a transactor lives, or a message in flight is lost
-- or, in version 2, repeated
pub data IsEffective (P : Program) (T : Run) (k : ℕ) : Failure → Type 0 where
  fails : {n t : ℕ} → n < P.nodes → LivesAt T n t k → IsEffective P T k (Fail n)
  loses : {m : ℕ} → InFlight T m k → IsEffective P T k (Lose m)
  repeats : {m : ℕ} → P.version ≡ 2 → InFlight T m k → IsEffective P T k (Repeat m)

-- fault f can come before the step at place k of run T of P, which is a multiple of `every`, and Q is P with it: nothing of the script
-- is due there, the script has room, and the new entry stands at its cursor
pub record IsFaulted (every : ℕ) (P : Program) (T : Run) (k : ℕ) (f : Failure) (Q : Program) : Type 0 where
  pub step : k < len T
  pub none_due : NoneDue P.script T k
  pub multiple : k % every ≡ 0
  pub effective : IsEffective P T k f
  pub room : length P.script < ENTRY_LIMIT
  pub cursor : Cursor
  pub stands : CursorAt P.script T k cursor
  pub faulted : Q ≡ with_entry P cursor.entry (record { at = k; failure = f })

-- how many faults of its kind are left
abbrev pub left_of : FaultCounts → Failure → ℕ
left_of left (Fail n) = left.fails
left_of left (Lose m) = left.losses
left_of left (Repeat m) = left.repeats

-- one of its kind fewer
abbrev pub fewer : FaultCounts → Failure → FaultCounts
fewer left (Fail n) = record left { fails = left.fails - 1 }
fewer left (Lose m) = record left { losses = left.losses - 1 }
fewer left (Repeat m) = record left { repeats = left.repeats - 1 }

-- the order of faults at one place: failures of nodes, losses, repeats, each by number
abbrev pub rank_of : Failure → ℕ
rank_of (Fail n) = 0
rank_of (Lose m) = 1
rank_of (Repeat m) = 2

abbrev pub object_of : Failure → ℕ
object_of (Fail n) = n
object_of (Lose m) = m
object_of (Repeat m) = m

abbrev pub ComesFirst : Failure → Failure → Type 0
ComesFirst f g = (rank_of f < rank_of g) ⊎ ((rank_of f ≡ rank_of g) × (object_of f < object_of g))

-- the faults that can come at place k where so many are left, in their order
pub record AreFaultsAt (every : ℕ) (left : FaultCounts) (P : Program) (T : Run) (k : ℕ) (faults : List Failure) : Type 0 where
  pub ordered : AllPairs ComesFirst faults
  pub all : (f : Failure) → Contains faults f ↔ ((0 < left_of left f) × ((Q : Program) × IsFaulted every P T k f Q))
