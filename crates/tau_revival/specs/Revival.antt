-- A program revived after a stop (docs/journal.md, "Going on").
use Rattle.std.specs.Prelude.{◌≡◌, ℕ, zero, suc, ◌+◌, ◌<◌, ◌≤◌, nat_le, if◌then◌else◌, List, [], ◌∷◌, ◌++◌, length, take, drop, Option, Some, None, slice_get}
use Rattle.tau_value.specs.declared.limits.TheConstants.{ENTRY_LIMIT}
use Rattle.tau_tree.specs.declared.entries.Entry.{Entry}
use Rattle.tau_tree.specs.declared.entries.Failure.TheVariants.{Fail}
use Rattle.tau_tree.specs.declared.programs.Program.{Program}
use Rattle.tau_trace.specs.Run.{Run, len}
use Rattle.tau_script.specs.declared.cursor.Cursor.{Cursor}
use Rattle.tau_script.specs.Cursors.{CursorAt, PassesTo}

-- where new entries go after n steps, by what stands at the cursor's entry e: behind it where it is ripe, before it where
-- it isn't, and at the end where there is none
abbrev pub place_by : Option Entry → ℕ → ℕ → ℕ → ℕ
place_by None long n e = long
place_by (Some x) long n e = if nat_le x.at n then e + 1 else e

abbrev pub block_place : List Entry → ℕ → ℕ → ℕ
block_place S n e = place_by (slice_get S e) (length S) n e

-- each node fails after n steps, in the order of the nodes
abbrev pub failing_nodes : ℕ → ℕ → List Entry
failing_nodes n zero = []
failing_nodes n (suc m) = failing_nodes n m ++ record { at = n; failure = Fail m } ∷ []

-- the script in which each node fails after n steps, the cursor being at entry e
abbrev pub revived : List Entry → ℕ → ℕ → ℕ → List Entry
revived S nodes n e = take (block_place S n e) S ++ (failing_nodes n nodes ++ drop (block_place S n e) S)

-- from cursor c one comes to the script's own at the end of the run by passing over entries
abbrev pub LeadsOn : List Entry → Run → Cursor → Type 0
LeadsOn S T c = (d : Cursor) → PassesTo S T (len T) c d → CursorAt S T (len T) d

-- the program in which each node fails after the steps of T
pub record IsRevival (P : Program) (T : Run) (Q : Program) : Type 0 where
  pub cursor : Cursor
  pub stands : CursorAt P.script T (len T) cursor
  pub few : length P.script + P.nodes ≤ ENTRY_LIMIT
  pub is : Q ≡ record P { script = revived P.script P.nodes (len T) cursor.entry }

-- the entries are so many, and with one more for each node there would be too many
abbrev pub IsScriptFull : Program → ℕ → Type 0
IsScriptFull P n = (n ≡ length P.script) × (ENTRY_LIMIT < length P.script + P.nodes)
