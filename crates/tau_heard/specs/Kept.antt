-- What is kept is the same, whichever room it has.
use Rattle.std.specs.Prelude.{◌≡◌, ℕ, ◌<◌, ◌≤◌, Bool, List, Option, Some, length, slice_get, vec_len}
use Rattle.std.specs.Vec.{vec_capacity}
use Rattle.tau_versions.specs.Logs.Told.{Told}
use Rattle.tau_heard.specs.declared.own.Own.{Own}
use Rattle.tau_heard.specs.declared.letter.Letter.{Letter}
use Rattle.tau_heard.specs.declared.letter.Sender.{Sender}
use Rattle.tau_heard.specs.declared.hearing.Hearing.{Hearing}
use Rattle.tau_heard.specs.Changed.{HasRoomToHear}
use Rattle.tau_heard.specs.Next.{HasStepRoom}

-- the logs have the same versions, takes and closed intervals
abbrev pub IsSameLog : Told → Told → Type 0
IsSameLog old new = (new.versions ≡ old.versions) × (new.takes ≡ old.takes) × (new.closed ≡ old.closed)

pub record AreSameLogs (old new : List Told) : Type 0 where
  pub count : length new ≡ length old
  pub each : (u : ℕ) (log : Told) → slice_get old u ≡ Some log → (next : Told) × (slice_get new u ≡ Some next) × IsSameLog log next

-- the same numbers, and the same turn
pub record IsSameOwn (old new : Own) : Type 0 where
  pub numbers : new.numbers.numbers ≡ old.numbers.numbers
  pub roots : new.roots ≡ old.roots
  pub touched : new.touched ≡ old.touched
  pub depended : new.depended ≡ old.depended

pub record AreSameOwn (old new : List Own) : Type 0 where
  pub count : length new ≡ length old
  pub each : (t : ℕ) (x : Own) → slice_get old t ≡ Some x → (next : Own) × (slice_get new t ≡ Some next) × IsSameOwn x next

-- the same is kept
pub record IsSameKept (old new : Hearing) : Type 0 where
  pub logs : AreSameLogs old.logs.items new.logs.items
  pub own : AreSameOwn old.own.items new.own.items
  pub letters : new.letters.items ≡ old.letters.items
  pub falls : new.falls ≡ old.falls

-- the log has room for a version, for so many takes, and for a closed interval
abbrev pub HasLogSpare : ℕ → Told → Type 0
HasLogSpare takes log = (1 ≤ log.spare_versions) × (takes ≤ log.spare_takes) × (1 ≤ log.spare_closed)

-- so many numbers are enough to hear of what the message has heard
abbrev pub AreEnough : List (Option Letter) → ℕ → ℕ → Type 0
AreEnough letters m count = (l : Letter) (s : Sender) → slice_get letters m ≡ Some (Some l) → l.sender ≡ Some s → (length s.numbers.value.items ≤ count) × (s.who < count)

-- there is room for one log, one transactor and one message more
abbrev pub HasListRoom : Hearing → Type 0
HasListRoom h = (vec_len h.logs < vec_capacity h.logs) × (vec_len h.own < vec_capacity h.own) × (vec_len h.letters < vec_capacity h.letters)

-- there is room for what a step of a transactor may add, and for what it hears of
abbrev pub HasActorStepRoom : Hearing → ℕ → Bool → Option ℕ → Type 0
HasActorStepRoom h who sets message = (l : Told) (x : Own) → slice_get h.logs.items who ≡ Some l → slice_get h.own.items who ≡ Some x → HasStepRoom sets l x × HasRoomToHear message h.letters.items x.numbers
