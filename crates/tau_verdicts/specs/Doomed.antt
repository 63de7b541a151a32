-- Doomed points: present points that aren't known to be clean, and the points that have taken them.
use Rattle.std.specs.Prelude.{◌≡◌, ◌⊎◌, ℕ, ◌<◌, ◌≤◌, Bool, false, List, [], Option, Some, None, IsTrue, IsFalse, Contains, slice_get, if◌then◌else◌, ◌==◌}
use Rattle.std.specs.Option.{option_map_or}
use Rattle.std.specs.declared.alloc.Global.{Global}
use Rattle.std.specs.declared.vec.Vec.{Vec}
use Rattle.tau_points.specs.declared.point.Point.{Point}
use Rattle.tau_points.specs.Reach.{Reach}
use Rattle.tau_trace.specs.Run.{Run}
use Rattle.tau_trace.specs.Numbering.{born}
use Rattle.tau_trace.specs.Points.{point_at, IsUpTo}
use Rattle.tau_past.specs.Carried.{TakesBy}
use Rattle.tau_past.specs.Pasts.{PastIn, Is}
use Rattle.tau_versions.specs.Logs.Takes.{ClosedIn}
use Rattle.tau_verdicts.specs.Clean.{Before, GoesOn}

-- the flag of u in a list; where nothing is kept of u it is false
abbrev pub flag_of : List Bool → ℕ → Bool
flag_of flags u = option_map_or (λ b. b) (slice_get flags u) false

-- the points that have taken u's present point, and such as may have
abbrev pub takers_of : List (Vec Point Global) → ℕ → List Point
takers_of takers u = option_map_or (λ v. v.items) (slice_get takers u) []

-- q lies behind a point that is closed by the steps before place n
pub record IsBehind (T : Run) (n : ℕ) (q : Point) : Type 0 where
  pub closed : Point
  pub is_closed : ClosedIn T (Before n) closed
  pub in_past : PastIn T (Before n) (Is closed) q

-- p took q by a step before place n, q is the present point of its transactor there, and p is among the takers of that
pub record IsNoted (T : Run) (n : ℕ) (takers : ℕ → List Point) (p q : Point) : Type 0 where
  pub place : ℕ
  pub before : place < n
  pub takes : TakesBy T place p q
  pub present : q ≡ point_at T q.who n
  pub listed : Contains (takers q.who) p

-- q lies behind a closed point, or is reached from p along takes that are noted
abbrev pub IsAccounted : Run → ℕ → (ℕ → List Point) → Point → Point → Type 0
IsAccounted T n takers p q = IsBehind T n q ⊎ Reach (IsNoted T n takers) (Is p) q

-- whoever has taken a doomed point is doomed, and each point that the present one of a transactor that isn't doomed has taken
-- is accounted for; a taker is the first point of the transactor that comes next, or one that its transactor has come to
pub record AreNoted (T : Run) (n : ℕ) (doomed : ℕ → Bool) (takers : ℕ → List Point) : Type 0 where
  pub spread : (u : ℕ) (p : Point) → IsTrue (doomed u) → Contains (takers u) p → p ≡ point_at T p.who n → IsTrue (doomed p.who)
  pub accounted : (t : ℕ) → IsFalse (doomed t) → (j : ℕ) (q : Point) → j < n → TakesBy T j (point_at T t n) q → IsAccounted T n takers (point_at T t n) q
  pub exist : (u : ℕ) (p : Point) → Contains (takers u) p → p.who ≤ born T n
  pub reached : (u : ℕ) (p : Point) → Contains (takers u) p → IsUpTo p (point_at T p.who n)

-- so it is however the run goes on
abbrev pub AreDoomed : Run → ℕ → (ℕ → Bool) → (ℕ → List Point) → Type 0
AreDoomed T n doomed takers = (V : Run) → GoesOn T n V → AreNoted V n doomed takers

-- with this value for the transactor that leaves its point, where one does
abbrev pub cleared : {A : Type 0} → Option ℕ → A → (ℕ → A) → ℕ → A
cleared None x f = f
cleared (Some w) x f = λ u. if u == w then x else f u
