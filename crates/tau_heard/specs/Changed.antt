-- What is kept after a change.
use Rattle.std.specs.Prelude.{◌≡◌, ℕ, suc, ◌<◌, ◌≤◌, Bool, true, false, List, [], ◌∷◌, ◌++◌, length, Option, Some, None, slice_get}
use Rattle.tau_points.specs.declared.point.Point.{Point}
use Rattle.tau_trace.specs.Run.{Run}
use Rattle.tau_trace.specs.Histories.{history}
use Rattle.tau_versions.specs.declared.logs.version.Version.{Version}
use Rattle.tau_versions.specs.Logs.Versions.{IsVersionOf}
use Rattle.tau_versions.specs.Logs.Told.{Told, TellsHistories}
use Rattle.tau_versions.specs.Numbers.Kept.{Kept}
use Rattle.tau_heard.specs.declared.own.Own.{Own}
use Rattle.tau_heard.specs.declared.letter.Letter.{Letter}
use Rattle.tau_heard.specs.declared.letter.Sender.{Sender}
use Rattle.tau_heard.specs.Bounds.{AreRaised}
use Rattle.tau_heard.specs.declared.change.LogChange.{LogChange}
use Rattle.tau_heard.specs.declared.change.LogChange.TheVariants as log
use Rattle.tau_heard.specs.declared.change.TurnChange.{TurnChange}
use Rattle.tau_heard.specs.declared.change.TurnChange.TheVariants as turn

-- the log has room for the change
abbrev pub HasLogRoom : LogChange → Told → Type 0
HasLogRoom log.Stays l = Unit {0}
HasLogRoom (log.Moves v) l = 1 ≤ l.spare_versions
HasLogRoom (log.Takes points v) l = (1 ≤ l.spare_versions) × (length points.items ≤ l.spare_takes)
HasLogRoom (log.Closes n v) l = (1 ≤ l.spare_versions) × (1 ≤ l.spare_closed)

-- with the version the log tells the histories on from those that it told, where these are the closed intervals
abbrev pub TellsOn : Told → Told → Version → List ℕ → Type 0
TellsOn old new v more = (T : Run) (u n : ℕ) → v.from ≡ suc n → IsVersionOf v (history T u (suc n)) → (history T u (suc n)).closed ≡ (history T u n).closed ++ more
    → TellsHistories T u n old → TellsHistories T u (suc n) new

-- the log after the change
abbrev pub IsLogAfter : LogChange → Told → Told → Type 0
IsLogAfter log.Stays old new = new ≡ old
IsLogAfter (log.Moves v) old new = (new.versions ≡ old.versions ++ v ∷ []) × (new.takes ≡ old.takes) × TellsOn old new v []
IsLogAfter (log.Takes points v) old new = (new.versions ≡ old.versions ++ v ∷ []) × (new.takes ≡ old.takes ++ points.items) × TellsOn old new v []
IsLogAfter (log.Closes n v) old new = (new.versions ≡ old.versions ++ v ∷ []) × (new.takes ≡ old.takes) × TellsOn old new v (n ∷ [])

-- the roots of a turn after the change, and whether it has touched, and depended
abbrev pub roots_after : TurnChange → List Point → List Point
roots_after turn.Stays roots = roots
roots_after turn.Touches roots = roots
roots_after turn.Depends roots = roots
roots_after (turn.Begins new) roots = new
roots_after turn.Ends roots = []

abbrev pub touched_after : TurnChange → Bool → Bool
touched_after turn.Stays touched = touched
touched_after turn.Touches touched = true
touched_after turn.Depends touched = true
touched_after (turn.Begins new) touched = false
touched_after turn.Ends touched = false

abbrev pub depended_after : TurnChange → Bool → Bool
depended_after turn.Stays depended = depended
depended_after turn.Touches depended = depended
depended_after turn.Depends depended = true
depended_after (turn.Begins new) depended = false
depended_after turn.Ends depended = false

-- the numbers have room for those of the message that is heard of
abbrev pub HasRoomToHear : Option ℕ → List (Option Letter) → Kept → Type 0
HasRoomToHear None letters kept = Unit {0}
HasRoomToHear (Some m) letters kept = (l : Letter) (s : Sender) → slice_get letters m ≡ Some (Some l) → l.sender ≡ Some s → (length s.numbers.value.items ≤ kept.room) × (s.who < kept.room)

-- the numbers after hearing of what a sender had heard; a post has none
abbrev pub AreRaisedBy : Option Sender → List ℕ → List ℕ → Type 0
AreRaisedBy None numbers raised = raised ≡ numbers
AreRaisedBy (Some s) numbers raised = AreRaised numbers s.who s.version s.numbers.value.items raised

-- the numbers after hearing of a message in flight, or of none
abbrev pub IsHeardAfter : Option ℕ → List (Option Letter) → List ℕ → List ℕ → Type 0
IsHeardAfter None letters numbers raised = raised ≡ numbers
IsHeardAfter (Some m) letters numbers raised = (l : Letter) → slice_get letters m ≡ Some (Some l) → AreRaisedBy l.sender numbers raised

-- what is kept of the transactor that makes a step, after it
pub record IsOwnAfter (hears : Option ℕ) (letters : List (Option Letter)) (turn : TurnChange) (old new : Own) : Type 0 where
  pub numbers : IsHeardAfter hears letters old.numbers.numbers new.numbers.numbers
  pub roots : new.roots ≡ roots_after turn old.roots
  pub touched : new.touched ≡ touched_after turn old.touched
  pub depended : new.depended ≡ depended_after turn old.depended
