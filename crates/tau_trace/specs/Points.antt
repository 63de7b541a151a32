-- The points of transactors, and the steps that are made at them (docs/rules.md, "Points").
use Rattle.std.specs.Prelude.{◌≡◌, ◌⊎◌, ℕ, ◌<◌, ◌≤◌, Some}
use Rattle.tau_history.specs.Timeline.{Timeline, interval}
use Rattle.tau_points.specs.declared.point.Point.{Point}
use Rattle.tau_trace.specs.declared.step.Step.TheVariants.{Stabilize}
use Rattle.tau_trace.specs.Run.{Run, step_at, starts}
use Rattle.tau_trace.specs.Histories.{history, Falls, Closes}

-- the point of transactor t at place k
abbrev pub point_at : Run → ℕ → ℕ → Point
point_at T t k = record { who = t; interval = interval (history T t k); incarnation = (history T t k).last }

-- a Stabilize of t stands at place k
abbrev pub Stabilizes : Run → ℕ → ℕ → Type 0
Stabilizes T t k = step_at T k ≡ Some (Stabilize t)

-- t leaves its point by its step at place k, a Checkpoint or a falling step
abbrev pub Leaves : Run → ℕ → ℕ → Type 0
Leaves T t k = Closes T t k ⊎ Falls T t k

-- at a place below k at which P holds, transactor q.who was at point q
pub record MadeAt (P : ℕ → Type 0) (T : Run) (q : Point) (k : ℕ) : Type 0 where
  pub place : ℕ
  pub before : place < k
  pub holds : P place
  pub at_point : q ≡ point_at T q.who place

-- the opening point of a start transactor, closed from the beginning
pub record IsOpeningPoint (T : Run) (q : Point) : Type 0 where
  pub is_start : q.who < starts T
  pub interval_is : q.interval ≡ 0
  pub incarnation_is : q.incarnation ≡ 0

-- the first point is not later than the second, both of one transactor
abbrev pub IsUpTo : Point → Point → Type 0
IsUpTo p q = (p.interval < q.interval) ⊎ ((p.interval ≡ q.interval) × (p.incarnation ≤ q.incarnation))

-- the first point is earlier than the second, both of one transactor
abbrev pub IsEarlier : Point → Point → Type 0
IsEarlier p q = (p.interval < q.interval) ⊎ ((p.interval ≡ q.interval) × (p.incarnation < q.incarnation))
