-- What is kept before the first step.
use Rattle.std.specs.Prelude.{◌≡◌, ℕ, ◌<◌, false, List, [], ◌∷◌, Option, Some, None, length, All}
use Rattle.tau_trace.specs.Run.{Run, starts}
use Rattle.tau_versions.specs.Logs.Told.{Told, TellsHistories}
use Rattle.tau_heard.specs.declared.own.Own.{Own}
use Rattle.tau_heard.specs.declared.letter.Letter.{Letter}

-- the log of a start: one version, that of the opening, without takes
pub record IsStartLog (log : Told) : Type 0 where
  pub versions : log.versions ≡ record { interval = 1; incarnation = 0; stable = false; first = 0; last = 0; from = 0 } ∷ []
  pub takes : log.takes ≡ []
  pub tells : (T : Run) (u : ℕ) → u < starts T → TellsHistories T u 0 log

-- the logs of so many starts
abbrev pub AreStartLogs : List Told → ℕ → Type 0
AreStartLogs logs count = (length logs ≡ count) × All IsStartLog logs

-- one that has heard of nothing and has no open turn
pub record IsUnheard (x : Own) : Type 0 where
  pub numbers : x.numbers.numbers ≡ []
  pub roots : x.roots ≡ []
  pub touched : x.touched ≡ false
  pub depended : x.depended ≡ false

abbrev pub AreStartOwn : List Own → ℕ → Type 0
AreStartOwn own count = (length own ≡ count) × All IsUnheard own

-- a post: it has heard nothing and carries nothing
pub record IsPost (l : Letter) : Type 0 where
  pub sender : l.sender ≡ None
  pub roots : l.roots ≡ []

-- it is there
pub record IsPostThere (o : Option Letter) : Type 0 where
  pub post : Letter
  pub there : o ≡ Some post
  pub is_post : IsPost post

abbrev pub ArePosts : List (Option Letter) → ℕ → Type 0
ArePosts letters count = (length letters ≡ count) × All IsPostThere letters
