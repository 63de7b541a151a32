-- What an open turn takes along, and what a message carries.
use Rattle.std.specs.Prelude.{◌≢◌, ◌↔◌, ℕ, ◌<◌, Bool, true, false, IsTrue, List, [], ◌∷◌, ◌++◌, Contains}
use Rattle.tau_points.specs.declared.point.Point.{Point}
use Rattle.tau_trace.specs.Run.{Run}
use Rattle.tau_trace.specs.Points.{point_at}
use Rattle.tau_past.specs.Carried.{Pending, TakesBy}
use Rattle.tau_past.specs.Heard.{Own}
use Rattle.tau_versions.specs.Logs.Takes.{TellsPending}

-- the roots, and the own point where the turn has touched it
abbrev pub with_own : Bool → Point → List Point → List Point
with_own true me roots = roots ++ me ∷ []
with_own false me roots = roots

-- what a message or a created transactor takes along: where the own point has taken all else, that point alone
abbrev pub taken_along : Bool → Bool → Point → List Point → List Point
taken_along touched true me roots = me ∷ []
taken_along touched false me roots = with_own touched me roots

-- what is taken along, each point once or more
abbrev pub IsAlong : Bool → Bool → Point → List Point → List Point → Type 0
IsAlong touched depended me roots along = (q : Point) → Contains along q ↔ Contains (taken_along touched depended me roots) q

-- by steps before place n, t's point has taken each other point that is pending
abbrev pub TookPending : Run → ℕ → ℕ → Type 0
TookPending T t n = (q : Point) → Pending T t n q → q ≢ point_at T t n → (i : ℕ) × (i < n) × Own T t n i × TakesBy T i (point_at T t n) q

-- the roots, with the own point where it is touched, are pending for t at place n, and cover all that is; where the turn has
-- depended, it has touched, and the own point has taken all else
pub record TellsTurn (T : Run) (t n : ℕ) (roots : List Point) (touched depended : Bool) : Type 0 where
  pub pending : TellsPending T t n (with_own touched (point_at T t n) roots)
  pub touches : IsTrue depended → IsTrue touched
  pub took : IsTrue depended → TookPending T t n
