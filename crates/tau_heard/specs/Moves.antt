-- How the log of a transactor goes on by a step.
use Rattle.std.specs.Prelude.{◌≡◌, ℕ, suc, ◌<◌, ◌≤◌, List, [], ◌∷◌, ◌++◌, length, Option}
use Rattle.tau_points.specs.declared.point.Point.{Point}
use Rattle.tau_trace.specs.Run.{Run, Agree, ActsAt, Does}
use Rattle.tau_trace.specs.Numbering.{born}
use Rattle.tau_trace.specs.Histories.{history}
use Rattle.tau_trace.specs.Known.{WellFormed}
use Rattle.tau_past.specs.Carried.{is_set}
use Rattle.tau_versions.specs.declared.logs.version.Version.{Version}
use Rattle.tau_versions.specs.Logs.Versions.{IsLatest}
use Rattle.tau_versions.specs.Logs.Told.{Told, TellsHistories}
use Rattle.tau_versions.specs.Logs.Takes.{taken, TellsTaken}
use Rattle.tau_heard.specs.declared.own.Own.{Own}
use Rattle.tau_heard.specs.declared.letter.Letter.{Letter}
use Rattle.tau_versions.specs.Search.Logs.{TellsLog}
use Rattle.tau_heard.specs.Logs.{KeepsLatest}
use Rattle.tau_heard.specs.Hears.{Hears}

-- a version was added to a log, and takes to its takes
pub record IsAdded (old new : Told) (v : Version) (more : List Point) : Type 0 where
  pub versions : new.versions ≡ old.versions ++ v ∷ []
  pub takes : new.takes ≡ old.takes ++ more
  pub ordered : v.first ≤ v.last
  pub within : v.last ≤ length new.takes

-- what becomes of the log of u by the step at place n: after a step of another one it stays; where the history stays, and
-- what the log lists as taken is still all, it stays; and with a version that begins after place n it goes on
pub record LogAfterStep (T : Run) (u n : ℕ) (old : Told) : Type 0 where
  pub other : ¬ ActsAt T u n → u < born T n → TellsLog T u (suc n) old
  pub quiet : ¬ Does is_set T u n → history T u (suc n) ≡ history T u n → u < born T n → TellsLog T u (suc n) old
  pub same : history T u (suc n) ≡ history T u n → ((i : ℕ) (v : Version) → IsLatest old.versions n i v → TellsTaken T u n (taken old.takes v) → TellsTaken T u (suc n) (taken old.takes v))
      → TellsLog T u (suc n) old
  pub added : (new : Told) (v : Version) (more : List Point) → IsAdded old new v more → v.from ≡ suc n → TellsHistories T u (suc n) new
      → TellsTaken T u (suc n) (taken new.takes v) → TellsLog T u (suc n) new × KeepsLatest n old new

abbrev pub LogsStepByStep : Type 0
LogsStepByStep = (T : Run) (u n : ℕ) (old : Told) → WellFormed T → TellsLog T u n old → LogAfterStep T u n old

-- what is kept at place n reads the opening and the steps before n alone
abbrev pub HearsIsLocal : Type 0
HearsIsLocal = (T U : Run) (n : ℕ) (logs : List Told) (own : List Own) (letters : List (Option Letter)) (falls : ℕ) → WellFormed T → WellFormed U → Agree T U n
    → Hears T n logs own letters falls → Hears U n logs own letters falls
