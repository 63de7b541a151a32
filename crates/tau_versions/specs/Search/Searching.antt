-- The search along what points have taken, by the versions that were heard of (docs/rules.md, "Known past").
use Rattle.std.specs.Prelude.{◌≡◌, ℕ, Bool, true, false, List, [], Some, length, slice_get, Contains, IsTrue, IsFalse}
use Rattle.std.specs.Option.{option_map_or}
use Rattle.tau_history.specs.declared.fate.Fate.{Fate}
use Rattle.tau_history.specs.declared.fate.Fate.TheVariants.{Ahead, Open, Stable, Closed, Fallen}
use Rattle.tau_points.specs.declared.point.Point.{Point}
use Rattle.tau_points.specs.Reach.{Reach}
use Rattle.tau_versions.specs.Logs.Told.{Told}
use Rattle.tau_versions.specs.Logs.Reading.{fate_told, takes_told}

-- the fate of q by the version heard of its transactor; Ahead where there is no such transactor
abbrev pub fate_of : List Told → (ℕ → ℕ) → Point → Fate
fate_of logs numbers q = option_map_or (λ log. fate_told log (numbers q.who) q.interval q.incarnation) (slice_get logs q.who) Ahead

-- what the point of the version heard of u has taken
abbrev pub takes_of : List Told → (ℕ → ℕ) → ℕ → List Point
takes_of logs numbers u = option_map_or (λ log. takes_told log (numbers u)) (slice_get logs u) []

-- the search goes on from a point that is Open or Stable
abbrev pub goes_on : Fate → Bool
goes_on Open = true
goes_on Stable = true
goes_on f = false

-- what the search for a fallen point looks for
abbrev pub is_fallen : Fate → Bool
is_fallen Fallen = true
is_fallen f = false

-- what the search for a point that isn't firm looks for
abbrev pub is_not_firm : Fate → Bool
is_not_firm Stable = false
is_not_firm Closed = false
is_not_firm f = true

-- the search goes from p to q: p is the point of the version heard of its transactor, and has taken q
pub record Leads (logs : List Told) (numbers : ℕ → ℕ) (p q : Point) : Type 0 where
  pub goes : IsTrue (goes_on (fate_of logs numbers p))
  pub taken : Contains (takes_of logs numbers p.who) q

-- what the search finds from a set of points
abbrev pub Found : List Told → (ℕ → ℕ) → (Point → Type 0) → Point → Type 0
Found logs numbers P = Reach (Leads logs numbers) P

-- the search comes to a point of which it is true
pub record Finds (wanted : Fate → Bool) (logs : List Told) (numbers : ℕ → ℕ) (P : Point → Type 0) : Type 0 where
  pub point : Point
  pub found : Found logs numbers P point
  pub is : IsTrue (wanted (fate_of logs numbers point))

-- What a search keeps.

-- q isn't wanted, and its transactor was met if the search goes on from it
pub record IsPassed (wanted : Fate → Bool) (logs : List Told) (numbers : ℕ → ℕ) (met : List Bool) (q : Point) : Type 0 where
  pub not_wanted : IsFalse (wanted (fate_of logs numbers q))
  pub met_too : IsTrue (goes_on (fate_of logs numbers q)) → slice_get met q.who ≡ Some true

-- a search that has met these transactors, each with all that follows from it, and found nothing that is wanted
pub record FoundNone (wanted : Fate → Bool) (logs : List Told) (numbers : ℕ → ℕ) (met : List Bool) : Type 0 where
  pub count : length met ≡ length logs
  pub passed : (u : ℕ) (q : Point) → slice_get met u ≡ Some true → Contains (takes_of logs numbers u) q → IsPassed wanted logs numbers met q
