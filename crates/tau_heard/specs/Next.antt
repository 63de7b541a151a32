-- A step that follows a run, and the changes by its kind.
use Rattle.std.specs.Prelude.{◌≡◌, ◌≢◌, ◌⊎◌, ℕ, suc, ◌+◌, ◌-◌, ◌<◌, ◌≤◌, Bool, true, false, IsTrue, List, [], ◌∷◌, length, Option, Some, None, slice_get, vec_len}
use Rattle.std.specs.Vec.{vec_capacity}
use Rattle.tau_history.specs.Timeline.{Timeline, Move, close, fall, moved}
use Rattle.tau_points.specs.declared.point.Point.{Point}
use Rattle.tau_trace.specs.declared.step.Step.{Step}
use Rattle.tau_trace.specs.declared.step.Step.TheVariants.{Drop, Heed, Get, Skip, Ask, Hold, Stay, Done, Trap, Fail}
use Rattle.tau_trace.specs.Steps.{actor}
use Rattle.tau_trace.specs.Run.{Run, ActsAt, starts}
use Rattle.tau_trace.specs.Known.{MayFollow, WellFormed}
use Rattle.tau_past.specs.Carried.{is_set}
use Rattle.tau_past.specs.Heard.{heard_by}
use Rattle.tau_knowledge.specs.Knowing.{IsReady}
use Rattle.tau_versions.specs.declared.logs.version.Version.{Version}
use Rattle.tau_versions.specs.Logs.Versions.{IsVersionOf}
use Rattle.tau_versions.specs.Logs.Told.{Told, TellsHistories}
use Rattle.tau_versions.specs.Logs.Reading.{takes_told}
use Rattle.tau_heard.specs.declared.own.Own.{Own}
use Rattle.tau_heard.specs.declared.hearing.Hearing.{Hearing}
use Rattle.tau_heard.specs.declared.change.ActorChange.{ActorChange}
use Rattle.tau_heard.specs.declared.change.LogChange.TheVariants as log
use Rattle.tau_heard.specs.declared.change.TurnChange.{TurnChange}
use Rattle.tau_heard.specs.declared.change.TurnChange.TheVariants as turn
use Rattle.tau_heard.specs.declared.change.HearingChange.{HearingChange}
use Rattle.tau_heard.specs.Changed.{HasRoomToHear}
use Rattle.tau_heard.specs.Hears.{Knows}

-- the log has room for what a step may add to it: a version, a closed interval and, by a Set, the roots of the turn and what the
-- point has taken
pub record HasStepRoom (sets : Bool) (log : Told) (x : Own) : Type 0 where
  pub versions : 1 ≤ log.spare_versions
  pub takes : IsTrue sets → length x.roots + length (takes_told log (length log.versions - 1)) ≤ log.spare_takes
  pub closed : 1 ≤ log.spare_closed

-- what is kept has room for the step
pub record HasRoomNext (h : Hearing) (s : Step) : Type 0 where
  pub logs : vec_len h.logs < vec_capacity h.logs
  pub own : vec_len h.own < vec_capacity h.own
  pub letters : vec_len h.letters < vec_capacity h.letters
  pub log : (t : ℕ) (log : Told) (x : Own) → actor s ≡ Some t → slice_get h.logs.items t ≡ Some log → slice_get h.own.items t ≡ Some x → HasStepRoom (is_set s) log x
  pub hears : (t m : ℕ) (x : Own) → actor s ≡ Some t → heard_by s ≡ Some m → slice_get h.own.items t ≡ Some x → HasRoomToHear (Some m) h.letters.items x.numbers

-- what is kept is right for the run, the step may follow it, and there is room
pub record IsNext (h : Hearing) (T : Run) (s : Step) : Type 0 where
  pub knows : Knows h T
  pub well_formed : WellFormed T
  pub follows : MayFollow T s
  pub ready : IsReady T s
  pub room : HasRoomNext h s

-- a change of the transactor that makes the step alone, and of a message that is out of flight then
abbrev pub actor_change : ActorChange → Option ℕ → Bool → HearingChange
actor_change a gone falls = record { actor = Some a; newborn = None; gone = gone; letter = None; falls = falls }

-- a change of its turn alone
abbrev pub turn_change : ℕ → TurnChange → HearingChange
turn_change t c = actor_change (record { who = t; hears = None; log = log.Stays; turn = c }) None false

-- the kinds that touch and do nothing else
abbrev pub only_touches : Step → Bool
only_touches (Get t) = true
only_touches (Skip t) = true
only_touches (Ask t a) = true
only_touches s = false

-- the kinds that hear of a message and do nothing else
abbrev pub only_hears : Step → Bool
only_hears (Drop t m) = true
only_hears (Heed t m) = true
only_hears s = false

-- the kinds that end a turn and do nothing else
abbrev pub only_ends : Step → Bool
only_ends (Hold t) = true
only_ends (Stay t) = true
only_ends (Done t) = true
only_ends s = false

-- the kinds that make a volatile transactor fall, and end the turn of a stable one
abbrev pub falls_if_volatile : Step → Bool
falls_if_volatile (Trap t c) = true
falls_if_volatile (Fail t) = true
falls_if_volatile s = false

-- v is the last version of t's log
abbrev pub IsLast : Hearing → ℕ → Version → Type 0
IsLast h t v = (l : Told) → slice_get h.logs.items t ≡ Some l → slice_get l.versions (length l.versions - 1) ≡ Some v

-- the second version is what the move makes of the first, by the step at place n; a point that is left has taken nothing
pub record IsMoved (n : ℕ) (old new : Version) (m : Move) : Type 0 where
  pub from : new.from ≡ suc n
  pub tells : (g : Timeline) → IsVersionOf old g → IsVersionOf new (moved m g)
  pub takes : ((new.first ≡ old.first) × (new.last ≡ old.last) × (m ≢ close) × (m ≢ fall)) ⊎ ((new.first ≡ 0) × (new.last ≡ 0) × ((m ≡ close) ⊎ (m ≡ fall)))

-- it is the one, if there is one
abbrev pub IsOnlyOne : Option ℕ → ℕ → Type 0
IsOnlyOne o m = (k : ℕ) → o ≡ Some k → k ≡ m

-- a transactor whose log and turn stay, and which hears of nothing
abbrev pub idle_actor : ℕ → ActorChange
idle_actor t = record { who = t; hears = None; log = log.Stays; turn = turn.Stays }

-- the log of a created transactor whose first point has taken these points
pub record IsFirstLog (l : Told) (points : List Point) : Type 0 where
  pub versions : l.versions ≡ record { interval = 0; incarnation = 0; stable = false; first = 0; last = length points; from = 0 } ∷ []
  pub takes : l.takes ≡ points
  pub tells : (T : Run) (u k : ℕ) → starts T ≤ u → ((j : ℕ) → j < k → ¬ ActsAt T u j) → TellsHistories T u k l
