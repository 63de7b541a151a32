-- How what is kept stays right step by step, each the contract of a function of the crate.
use Rattle.std.specs.Prelude.{◌≡◌, ◌⊎◌, ℕ, suc, ◌<◌, Bool, true, false, Option, Some, None, List, [], Contains}
use Rattle.tau_points.specs.declared.point.Point.{Point}
use Rattle.tau_trace.specs.declared.step.Step.TheVariants.{Take}
use Rattle.tau_trace.specs.Steps.{ends_turn}
use Rattle.tau_trace.specs.Run.{Run, len, step_at, ActsAt, Does}
use Rattle.tau_trace.specs.Numbering.{born, sent, IsNew, IsSent, IsEchoed, IsRepeated, IsOrigin, HasSender}
use Rattle.tau_trace.specs.Histories.{Falls}
use Rattle.tau_trace.specs.Points.{point_at}
use Rattle.tau_trace.specs.Known.{WellFormed}
use Rattle.tau_trace.specs.Turns.{HasOpenTurn}
use Rattle.tau_past.specs.Carried.{touches, is_set}
use Rattle.tau_past.specs.Heard.{Heard, HeardBy, HeardTogether}
use Rattle.tau_past.specs.Decisions.{takes, Verdict}
use Rattle.tau_past.specs.KnownLaws.{HearsOf, HearsOfNone, keeps_pending}
use Rattle.tau_versions.specs.Logs.Told.{Told}
use Rattle.tau_versions.specs.Logs.Takes.{ClosedIn, TellsTaken, TellsSent}
use Rattle.tau_heard.specs.declared.letter.Sender.{Sender}
use Rattle.tau_heard.specs.Bounds.{TellsBounds, TellsHeardBy, last_number, AreRaised}
use Rattle.tau_versions.specs.Search.Logs.{AreLogs}
use Rattle.tau_heard.specs.Logs.{LogsGoOn}
use Rattle.tau_heard.specs.Turns.{IsAlong, TellsTurn}
use Rattle.tau_heard.specs.Falls.{falling_steps}

-- What was heard.

-- the logs are right up to place n and one step later, and the latter go on from the former
pub record LogsFollow (T : Run) (n : ℕ) (old new : List Told) : Type 0 where
  pub before : AreLogs T n old
  pub after : AreLogs T (suc n) new
  pub go_on : LogsGoOn n old new

-- what t has heard together with message m: of each transactor the later version
abbrev pub BoundsTogether : Type 0
BoundsTogether = (T : Run) (t n m who version : ℕ) (logs : List Told) (numbers others raised : List ℕ) → TellsBounds T (Heard T t n) n logs t (last_number logs t) numbers
    → TellsBounds T (HeardBy T m) n logs who version others → AreRaised numbers who version others raised → TellsBounds T (HeardTogether T t n m) n logs t (last_number logs t) raised

-- with these numbers t goes by what it has heard one step later
abbrev pub TellsNext : Run → ℕ → ℕ → List Told → List ℕ → Type 0
TellsNext T t n new numbers = TellsBounds T (Heard T t (suc n)) (suc n) new t (last_number new t) numbers

-- what becomes of t's numbers by the step at place n: those of others stay; so do the actor's own where it hears of nothing
-- that it hadn't heard, and otherwise they are raised by what it hears of. A message and a notice that t makes, and a
-- transactor that t makes, have t's numbers, with t's own version
pub record BoundsAfterStep (T : Run) (t n : ℕ) (old new : List Told) (numbers : List ℕ) : Type 0 where
  pub other : ¬ ActsAt T t n → last_number new t ≡ last_number old t → TellsNext T t n new numbers
  pub alone : ActsAt T t n → HearsOfNone T n → TellsNext T t n new numbers
  pub post : (m : ℕ) → ActsAt T t n → HearsOf T n m → TellsHeardBy T m n old None → TellsNext T t n new numbers
  pub own_message : (m : ℕ) → ActsAt T t n → HearsOf T n m → HasSender T m t → TellsNext T t n new numbers
  pub hearing : (m who version : ℕ) (others raised : List ℕ) → ActsAt T t n → HearsOf T n m → TellsBounds T (HeardBy T m) n old who version others
      → AreRaised numbers who version others raised → TellsNext T t n new raised
  pub message : (m : ℕ) → IsOrigin T n t m → TellsBounds T (HeardBy T m) (suc n) new t (last_number new t) numbers
  pub newborn : (u : ℕ) (raised : List ℕ) → IsNew T n t u → last_number new u ≡ 0 → AreRaised numbers t (last_number new t) [] raised → TellsNext T u n new raised

abbrev pub BoundsStepByStep : Type 0
BoundsStepByStep = (T : Run) (t n : ℕ) (old new : List Told) (numbers : List ℕ) → WellFormed T → t < born T n → LogsFollow T n old new
    → TellsBounds T (Heard T t n) n old t (last_number old t) numbers → BoundsAfterStep T t n old new numbers

-- what a message has heard it has heard one step later
abbrev pub LettersStay : Type 0
LettersStay = (T : Run) (m n : ℕ) (old new : List Told) (sender : Option Sender) → WellFormed T → m < sent T n → LogsFollow T n old new → TellsHeardBy T m n old sender → TellsHeardBy T m (suc n) new sender

-- What is taken along.

-- the roots without some that are closed, known in H
pub record WithoutClosed (T : Run) (H : ℕ → Type 0) (roots left : List Point) : Type 0 where
  pub among : (q : Point) → Contains left q → Contains roots q
  pub closed : (q : Point) → Contains roots q → Contains left q ⊎ ClosedIn T H q

-- what becomes of what t's turn takes along by the step at place n, by its class: a step of another one and a step that
-- neither touches nor begins or ends a turn leave it; a touching step adds the own point; a Set makes the own point take all;
-- a Take puts in its place what the message carries, without closed points; an ending step leaves nothing
pub record TurnAfterStep (T : Run) (t n : ℕ) (roots : List Point) (touched depended : Bool) : Type 0 where
  pub other : ¬ ActsAt T t n → TellsTurn T t (suc n) roots touched depended
  pub keeping : Does keeps_pending T t n → TellsTurn T t (suc n) roots touched depended
  pub touching : Does touches T t n → HasOpenTurn T t n → TellsTurn T t (suc n) roots true depended
  pub set : Does is_set T t n → HasOpenTurn T t n → TellsTurn T t (suc n) roots true true
  pub take : (m : ℕ) (carried left : List Point) → step_at T n ≡ Some (Take t m) → TellsSent T m n carried → WithoutClosed T (Heard T t (suc n)) carried left
      → TellsTurn T t (suc n) left false false
  pub ending : Does ends_turn T t n → TellsTurn T t (suc n) [] false false
  pub message : (m : ℕ) (along : List Point) → IsSent T n t m → IsAlong touched depended (point_at T t n) roots along → TellsSent T m (suc n) along
  pub notice : (k m : ℕ) → IsEchoed T n t k m → TellsSent T m (suc n) []
  pub taken : (u : ℕ) (along : List Point) → IsNew T n t u → IsAlong touched depended (point_at T t n) roots along → TellsTaken T u (suc n) along
  pub newborn : (u : ℕ) → IsNew T n t u → TellsTurn T u (suc n) [] false false

abbrev pub TurnsStepByStep : Type 0
TurnsStepByStep = (T : Run) (t n : ℕ) (roots : List Point) (touched depended : Bool) → WellFormed T → TellsTurn T t n roots touched depended → TurnAfterStep T t n roots touched depended

-- what a message carries it carries one step later
abbrev pub CarriedStays : Type 0
CarriedStays = (T : Run) (m n : ℕ) (roots : List Point) → TellsSent T m n roots → TellsSent T m (suc n) roots

-- a copy has heard and carries what the message that it repeats does
abbrev pub CopiesHearAlike : Type 0
CopiesHearAlike = (T : Run) (k n m at : ℕ) (logs : List Told) (sender : Option Sender) → IsRepeated T k n m → TellsHeardBy T n at logs sender → TellsHeardBy T m at logs sender

abbrev pub CopiesCarryAlike : Type 0
CopiesCarryAlike = (T : Run) (k n m at : ℕ) (roots : List Point) → IsRepeated T k n m → TellsSent T n at roots → TellsSent T m at roots

-- Falling steps.

-- where none was counted, nothing has fallen
abbrev pub NoneCountedNothingFalls : Type 0
NoneCountedNothingFalls = (T : Run) (n : ℕ) → falling_steps T n ≡ 0 → (t k : ℕ) → k < n → ¬ Falls T t k

-- then every message is taken
abbrev pub NoneCountedAllIsTaken : Type 0
NoneCountedAllIsTaken = (T : Run) (t m : ℕ) → falling_steps T (len T) ≡ 0 → Verdict T t (len T) m takes
