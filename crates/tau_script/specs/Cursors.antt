-- Which entry of a script is due, and where the cursor stands (docs/definitions.md, "Due step").
use Rattle.std.specs.Prelude.{◌≡◌, ◌⊎◌, ℕ, zero, suc, ◌+◌, ◌≤◌, List, Option, Some, None, slice_get}
use Rattle.tau_tree.specs.declared.entries.Entry.{Entry}
use Rattle.tau_tree.specs.declared.entries.Failure.{Failure}
use Rattle.tau_tree.specs.declared.entries.Failure.TheVariants as failures
use Rattle.tau_trace.specs.declared.step.Step.{Step}
use Rattle.tau_trace.specs.declared.step.Step.TheVariants as steps
use Rattle.tau_trace.specs.Run.{Run}
use Rattle.tau_trace.specs.Numbering.{InFlight}
use Rattle.tau_trace.specs.Nodes.{IsNextLiving}
use Rattle.tau_script.specs.declared.cursor.Cursor.{Cursor}

-- the cursor at the opening, and after it went to the next entry
abbrev pub first_cursor : Cursor
first_cursor = record { entry = 0; who = 0 }

abbrev pub next_entry : Cursor → Cursor
next_entry c = record { entry = c.entry + 1; who = 0 }

-- the cursor after a step of the script: a Lose and a Repeat go to the next entry, a Fail to the transactor after the one that
-- failed
abbrev pub moved_past : Step → Cursor → Cursor
moved_past (steps.Fail t) c = record { entry = c.entry; who = t + 1 }
moved_past (steps.Lose m) c = next_entry c
moved_past (steps.Repeat m) c = next_entry c
moved_past s c = c

-- the cursor after a place at which this step was due, or none
abbrev pub moved_past_due : Option Step → Cursor → Cursor
moved_past_due None c = c
moved_past_due (Some s) c = moved_past s c

-- the step as which a ripe failure is due at place k, where the cursor's transactor is `from`; None where it is passed over
abbrev pub IsDueAs : Run → ℕ → ℕ → Failure → Option Step → Type 0
IsDueAs T k from (failures.Fail n) None = IsNextLiving T n k from None
IsDueAs T k from (failures.Fail n) (Some s) = (t : ℕ) × IsNextLiving T n k from (Some t) × (s ≡ steps.Fail t)
IsDueAs T k from (failures.Lose m) None = ¬ InFlight T m k
IsDueAs T k from (failures.Lose m) (Some s) = InFlight T m k × (s ≡ steps.Lose m)
IsDueAs T k from (failures.Repeat m) None = ¬ InFlight T m k
IsDueAs T k from (failures.Repeat m) (Some s) = InFlight T m k × (s ≡ steps.Repeat m)

-- entry e stands at the cursor, and the run has at least as many steps as its place says
pub record IsRipe (S : List Entry) (k : ℕ) (c : Cursor) (e : Entry) : Type 0 where
  pub stands : slice_get S c.entry ≡ Some e
  pub ripe : e.at ≤ k

-- the entry at the cursor is ripe at place k and not due
pub record IsPassedOver (S : List Entry) (T : Run) (k : ℕ) (c : Cursor) : Type 0 where
  pub entry : Entry
  pub ripe : IsRipe S k c entry
  pub not_due : IsDueAs T k c.who entry.failure None

-- cursor c comes to d by passing over entries at place k, up to one that isn't passed over
pub data PassesTo (S : List Entry) (T : Run) (k : ℕ) : Cursor → Cursor → Type 0 where
  rests : {c : Cursor} → ¬ IsPassedOver S T k c → PassesTo S T k c c
  passes : {c d : Cursor} → IsPassedOver S T k c → PassesTo S T k (next_entry c) d → PassesTo S T k c d

-- the entry at the cursor is due at place k as step s
pub record IsDueHere (S : List Entry) (T : Run) (k : ℕ) (c : Cursor) (s : Step) : Type 0 where
  pub entry : Entry
  pub ripe : IsRipe S k c entry
  pub due : IsDueAs T k c.who entry.failure (Some s)

-- the step that is due at place k where the cursor stands at c and rests; None where no entry there is ripe
abbrev pub IsDueAt : List Entry → Run → ℕ → Cursor → Option Step → Type 0
IsDueAt S T k c None = (e : Entry) → ¬ IsRipe S k c e
IsDueAt S T k c (Some s) = IsDueHere S T k c s

-- from a cursor of A at place k, what is due there, if a step is, moves the cursor to c
pub record MovedFrom (A : Cursor → Type 0) (S : List Entry) (T : Run) (k : ℕ) (c : Cursor) : Type 0 where
  pub before : Cursor
  pub stood : A before
  pub step : Option Step
  pub due : IsDueAt S T k before step
  pub moved : c ≡ moved_past_due step before

-- the cursor at place k: it opens at entry 0 and transactor 0, moves after each place at which a step was due, and then
-- passes over entries
abbrev pub CursorAt : List Entry → Run → ℕ → Cursor → Type 0
CursorAt S T zero c = PassesTo S T 0 first_cursor c
CursorAt S T (suc k) c = (b : Cursor) × MovedFrom (CursorAt S T k) S T k b × PassesTo S T (suc k) b c

-- the cursor at place k before it passes over entries there
abbrev pub ComesTo : List Entry → Run → ℕ → Cursor → Type 0
ComesTo S T zero c = c ≡ first_cursor
ComesTo S T (suc k) c = MovedFrom (CursorAt S T k) S T k c

-- the cursor is at place k as the script says, or has yet to pass over entries there
abbrev pub IsCurrent : List Entry → Run → ℕ → Cursor → Type 0
IsCurrent S T k c = CursorAt S T k c ⊎ ComesTo S T k c
