-- Pasts of points, by the whole trace and as known in a set of places (docs/definitions.md, "Past", "Known in a set").
use Rattle.std.specs.Prelude.{◌≡◌, ◌⊎◌, ℕ, suc}
use Rattle.tau_points.specs.declared.point.Point.{Point}
use Rattle.tau_points.specs.Reach.{Reach}
use Rattle.tau_trace.specs.Run.{Run}
use Rattle.tau_trace.specs.Histories.{Falls, Closes}
use Rattle.tau_trace.specs.Points.{point_at, Stabilizes, IsOpeningPoint}
use Rattle.tau_past.specs.Carried.{TakesBy}

-- q is the closing point of interval i of t, known in H: the point at which the Checkpoint that ended the interval was
-- made, or the opening point of a start
pub data ClosesAt (T : Run) (H : ℕ → Type 0) (t i : ℕ) (q : Point) : Type 0 where
  checkpoint : {j : ℕ} → H j → Closes T t j → q ≡ point_at T t j → q.interval ≡ i → ClosesAt T H t i q
  opening : q.who ≡ t → i ≡ 0 → IsOpeningPoint T q → ClosesAt T H t i q

-- p leads to q, known in H: p takes q, or q is the closing point of the interval before p's
pub data Link (T : Run) (H : ℕ → Type 0) (p q : Point) : Type 0 where
  takes : {j : ℕ} → H j → TakesBy T j p q → Link T H p q
  closing : {i : ℕ} → p.interval ≡ suc i → ClosesAt T H p.who i q → Link T H p q

-- the known past in H of a set of points: the least set that holds them and all that its members lead to
abbrev pub PastIn : Run → (ℕ → Type 0) → (Point → Type 0) → Point → Type 0
PastIn T H P = Reach (Link T H) P

-- the set of one point
abbrev pub Is : Point → Point → Type 0
Is p q = q ≡ p

-- all places
abbrev pub Everywhere : ℕ → Type 0
Everywhere k = Unit {0}

-- the past of a point, by the whole trace
abbrev pub Past : Run → Point → Point → Type 0
Past T p = PastIn T Everywhere (Is p)

-- a falling step at point q is in H
pub record FellIn (T : Run) (H : ℕ → Type 0) (q : Point) : Type 0 where
  pub place : ℕ
  pub held : H place
  pub falls : Falls T q.who place
  pub at_point : q ≡ point_at T q.who place

-- a Stabilize at point q is in H
pub record StabilizedIn (T : Run) (H : ℕ → Type 0) (q : Point) : Type 0 where
  pub place : ℕ
  pub held : H place
  pub stabilizes : Stabilizes T q.who place
  pub at_point : q ≡ point_at T q.who place

-- q is known firm in H: not known fallen, and a Stabilize at it is in H or it is the opening point of a start
pub record FirmIn (T : Run) (H : ℕ → Type 0) (q : Point) : Type 0 where
  pub not_fallen : ¬ FellIn T H q
  pub settled : StabilizedIn T H q ⊎ IsOpeningPoint T q
