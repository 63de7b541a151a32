-- What is noted where a point takes others.
use Rattle.std.specs.Prelude.{◌≡◌, ◌⊎◌, ℕ, ◌≤◌, Bool, true, List, IsTrue, IsFalse, Contains}
use Rattle.tau_history.specs.declared.fate.Fate.TheVariants.{Closed}
use Rattle.tau_points.specs.declared.point.Point.{Point}
use Rattle.tau_trace.specs.Run.{Run, len}
use Rattle.tau_trace.specs.Numbering.{born}
use Rattle.tau_trace.specs.Points.{point_at, IsUpTo}
use Rattle.tau_versions.specs.Logs.Told.{Told}
use Rattle.tau_versions.specs.Search.Searching.{fate_of, goes_on}
use Rattle.tau_versions.specs.Roots.Adding.{AreFresh}
use Rattle.tau_heard.specs.declared.own.Own.{Own}
use Rattle.tau_verdicts.specs.Latest.{latest}

-- by the last versions the point is closed, or it is the present one of a transactor that isn't doomed
abbrev pub IsWell : List Told → (ℕ → Bool) → Point → Type 0
IsWell logs doomed q = (fate_of logs (latest logs) q ≡ Closed) ⊎ IsTrue (goes_on (fate_of logs (latest logs) q)) × IsFalse (doomed q.who)

abbrev pub AreWell : List Told → (ℕ → Bool) → List Point → Type 0
AreWell logs doomed points = (q : Point) → Contains points q → IsWell logs doomed q

-- by the last versions q is closed, or it is a present point and p is among its takers
abbrev pub IsListed : List Told → (ℕ → List Point) → Point → Point → Type 0
IsListed logs takers p q = (fate_of logs (latest logs) q ≡ Closed) ⊎ IsTrue (goes_on (fate_of logs (latest logs) q)) × Contains (takers q.who) p

abbrev pub AreListed : List Told → (ℕ → List Point) → Point → List Point → Type 0
AreListed logs takers p points = (q : Point) → Contains points q → IsListed logs takers p q

-- takers were added: only p, and only where the transactor isn't doomed
pub record AreAdded (doomed : ℕ → Bool) (p : Point) (old new : ℕ → List Point) : Type 0 where
  pub kept : (u : ℕ) (q : Point) → Contains (old u) q → Contains (new u) q
  pub only : (u : ℕ) (q : Point) → Contains (new u) q → Contains (old u) q ⊎ (q ≡ p) × IsFalse (doomed u)

-- p may come to takers: its transactor has come to it, or is the one that comes next
pub record MayTake (T : Run) (p : Point) : Type 0 where
  pub exists : p.who ≤ born T (len T)
  pub reached : IsUpTo p (point_at T p.who (len T))

-- what the own point takes by a Set and hasn't taken before stands among the points
abbrev pub AreNew : Own → Point → List Point → List Point → Type 0
AreNew x me taken points = (x.depended ≡ true) ⊎ AreFresh x.roots me taken points
