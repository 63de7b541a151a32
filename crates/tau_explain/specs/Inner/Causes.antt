-- The points at which marked steps fell, stabilized, or were made.
use Rattle.std.specs.Prelude.{◌≡◌, ◌⊎◌, ℕ, Bool, List, Contains}
use Rattle.tau_points.specs.declared.point.Point.{Point}
use Rattle.tau_trace.specs.Run.{Run, ActsAt}
use Rattle.tau_trace.specs.Histories.{Falls}
use Rattle.tau_trace.specs.Points.{point_at, Stabilizes}
use Rattle.tau_explain.specs.Inner.Hearing.{IsMarked}

-- the step at place j was made at q
pub record IsMadePoint (T : Run) (j : ℕ) (q : Point) : Type 0 where
  pub acts : ActsAt T q.who j
  pub at_point : q ≡ point_at T q.who j

-- the step at place j is marked and fell from q
pub record FellAt (T : Run) (marks : List Bool) (j : ℕ) (q : Point) : Type 0 where
  pub marked : IsMarked marks j
  pub falls : Falls T q.who j
  pub at_point : q ≡ point_at T q.who j

-- the step at place j is a marked Stabilize at q
pub record StabilizedAt (T : Run) (marks : List Bool) (j : ℕ) (q : Point) : Type 0 where
  pub marked : IsMarked marks j
  pub stabilizes : Stabilizes T q.who j
  pub at_point : q ≡ point_at T q.who j

-- a marked step was made at q, or it is this point
abbrev pub IsCandidate : Run → List Bool → Point → Point → Type 0
IsCandidate T marks own q = (q ≡ own) ⊎ ((j : ℕ) × IsMarked marks j × IsMadePoint T j q)

-- q is fallen, or not stable
abbrev pub IsUnfirm : List Point → List Point → Point → Type 0
IsUnfirm fallen stable q = Contains fallen q ⊎ ¬ Contains stable q

-- q is stable and not fallen
abbrev pub IsSettled : List Point → List Point → Point → Type 0
IsSettled fallen stable q = (¬ Contains fallen q) × Contains stable q

-- those points of P that are not settled are added
pub record AddsUnfirm (fallen stable : List Point) (P : Point → Type 0) (points0 points : List Point) : Type 0 where
  pub kept : (q : Point) → Contains points0 q → Contains points q
  pub allowed : (q : Point) → Contains points q → Contains points0 q ⊎ (P q × IsUnfirm fallen stable q)
  pub added : (q : Point) → P q → Contains points q ⊎ IsSettled fallen stable q
