-- Laws of revival, each the contract of a function of the crate.
use Rattle.std.specs.Prelude.{◌≡◌, ◌↔◌, ℕ, ◌<◌, List, [], Option}
use Rattle.tau_tree.specs.declared.entries.Entry.{Entry}
use Rattle.tau_trace.specs.declared.step.Step.{Step}
use Rattle.tau_tree.specs.declared.programs.Program.{Program}
use Rattle.tau_tree.specs.Sound.{Sound}
use Rattle.tau_trace.specs.Run.{Run, Agree, len, appended}
use Rattle.tau_script.specs.declared.cursor.Cursor.{Cursor}
use Rattle.tau_script.specs.Cursors.{first_cursor, CursorAt, MovedFrom}
use Rattle.tau_script.specs.Scripts.{IsDue}
use Rattle.tau_legal.specs.Traces.{IsLegal, Legal}
use Rattle.tau_revival.specs.Revival.{IsRevival, LeadsOn, revived}

-- the revived script makes the same due at each place before the end of the run, and from the old cursor at the end it
-- comes to its own by passing over entries
pub record KeepsDue (S : List Entry) (T : Run) (nodes : ℕ) (c : Cursor) : Type 0 where
  pub due : (k : ℕ) (s : Option Step) → k < len T → IsDue S T k s ↔ IsDue (revived S nodes (len T) c.entry) T k s
  pub goes_on : LeadsOn (revived S nodes (len T) c.entry) T c

-- so it is for every run, legal or not
abbrev pub RevivalKeepsDue : Type 0
RevivalKeepsDue = (S : List Entry) (T : Run) (nodes : ℕ) (c : Cursor) → 0 < nodes → CursorAt S T (len T) c → KeepsDue S T nodes c

-- a sound program and its revival have the same legal steps of a run that agrees, so far, with the one by which it was revived
abbrev pub RevivalKeepsSteps : Type 0
RevivalKeepsSteps = (P Q : Program) (T U : Run) (k : ℕ) (s : Step) → Sound P → IsRevival P T Q → Agree T U (len T) → k < len T → IsLegal P U k s ↔ IsLegal Q U k s

-- so that run is legal for both or for none
abbrev pub RevivalKeepsLegality : Type 0
RevivalKeepsLegality = (P Q : Program) (T : Run) → Sound P → IsRevival P T Q → Legal P T ↔ Legal Q T

-- the first cursor leads on before the first step, and one that was moved past what was due leads on behind the next step
pub record CursorsLeadOn : Type 0 where
  pub first : (S : List Entry) (T : Run) → T.steps ≡ [] → LeadsOn S T first_cursor
  pub next : (S : List Entry) (T : Run) (c : Cursor) (s : Step) → MovedFrom (CursorAt S T (len T)) S T (len T) c → LeadsOn S (appended T s) c
