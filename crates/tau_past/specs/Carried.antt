-- What steps carry, and which points take which (docs/definitions.md, "Carried", "Takes").
use Rattle.std.specs.Prelude.{◌≡◌, ◌≢◌, ℕ, ◌<◌, Bool, true, false}
use Rattle.tau_points.specs.declared.point.Point.{Point}
use Rattle.tau_trace.specs.declared.step.Step.{Step}
use Rattle.tau_trace.specs.declared.step.Step.TheVariants.{Get, Set, Skip, Stabilize, Ask}
use Rattle.tau_trace.specs.Run.{Run, ActsAt, Does}
use Rattle.tau_trace.specs.Numbering.{IsNew, IsOrigin, IsSendAt}
use Rattle.tau_trace.specs.Points.{point_at}
use Rattle.tau_trace.specs.Turns.{Turn}

-- the kinds that touch: what their turn carries from then on depends on their transactor's point
abbrev pub touches : Step → Bool
touches (Get t) = true
touches (Set t v) = true
touches (Skip t) = true
touches (Stabilize t) = true
touches (Ask t a) = true
touches s = false

abbrev pub is_set : Step → Bool
is_set (Set t v) = true
is_set s = false

-- a step of t at place k would carry point q: an earlier touching step of t's open turn was made at q, or the message
-- of that turn's Take has a Send as its origin, which carries q
pub data Pending (T : Run) : ℕ → ℕ → Point → Type 0 where
  touched : {t k take m j : ℕ} {q : Point} → Turn T t k take m → take < j → j < k → Does touches T t j → q ≡ point_at T t j → Pending T t k q
  came : {t k take m j by : ℕ} {q : Point} → Turn T t k take m → IsOrigin T j by m → IsSendAt T j → Pending T by j q → Pending T t k q

-- the step at place k carries point q: it exists, and a step of its actor there would
pub record Carried (T : Run) (k : ℕ) (q : Point) : Type 0 where
  pub by : ℕ
  pub acts : ActsAt T by k
  pub pending : Pending T by k q

-- message m carries point q: its origin is a Send that does; a post, a notice and copies of them carry nothing
pub record SentWith (T : Run) (m : ℕ) (q : Point) : Type 0 where
  pub place : ℕ
  pub by : ℕ
  pub origin : IsOrigin T place by m
  pub send : IsSendAt T place
  pub carried : Carried T place q

-- the first point of a created transactor
abbrev pub first_point : ℕ → Point
first_point u = record { who = u; interval = 0; incarnation = 0 }

-- by its step at place j, point p takes point q, another one: a Set was made at p that carries q, or p is the first point
-- of a created transactor whose New carries q
pub data TakesBy (T : Run) (j : ℕ) (p q : Point) : Type 0 where
  by_set : {t : ℕ} → Does is_set T t j → p ≡ point_at T t j → Carried T j q → q ≢ p → TakesBy T j p q
  by_new : {by u : ℕ} → IsNew T j by u → p ≡ first_point u → Carried T j q → q ≢ p → TakesBy T j p q
