-- Laws of runs, each the contract of a function of the crate.
use Rattle.std.specs.Prelude.{◌≡◌, ◌≢◌, ◌⊎◌, ◌↔◌, ℕ, suc, ◌<◌, ◌≤◌, IsTrue, IsFalse, List}
use Rattle.tau_history.specs.Timeline.{interval}
use Rattle.tau_history.specs.Order.{Precedes}
use Rattle.tau_history.specs.Fates.{IsClosed, IsFallen, IsStable, IsAhead}
use Rattle.tau_points.specs.declared.point.Point.{Point}
use Rattle.tau_trace.specs.declared.opening.Opening.{Opening}
use Rattle.tau_trace.specs.declared.step.Step.{Step}
use Rattle.tau_trace.specs.Run.{Run, Agree, ActsAt}
use Rattle.tau_trace.specs.Known.{WellFormed}
use Rattle.tau_trace.specs.Numbering.{born, sent, IsOrigin, Receives, IsHome, InFlight}
use Rattle.tau_trace.specs.Histories.{history, IsCounted, Falls, Closes, EndsAt, Ended}
use Rattle.tau_trace.specs.Points.{point_at, Stabilizes, Leaves, MadeAt, IsOpeningPoint, IsUpTo, IsEarlier}
use Rattle.tau_trace.specs.Turns.{Turn}

-- histories are what counting steps gives
abbrev pub HistoriesAreCounted : Type 0
HistoriesAreCounted = (T : Run) (t k : ℕ) → IsCounted T t k

-- what is said of place k is the same in both runs
pub record SameAt (T U : Run) (k : ℕ) : Type 0 where
  pub born_is : born T k ≡ born U k
  pub sent_is : sent T k ≡ sent U k
  pub history_is : (t : ℕ) → history T t k ≡ history U t k
  pub in_flight : (m : ℕ) → InFlight T m k ↔ InFlight U m k
  pub ended : (t : ℕ) → Ended T t k ↔ Ended U t k
  pub turn : (t place m : ℕ) → Turn T t k place m ↔ Turn U t k place m
  pub receives : (m u : ℕ) → m < sent T k → Receives T m u ↔ Receives U m u
  pub origin : (m j by : ℕ) → m < sent T k → IsOrigin T j by m ↔ IsOrigin U j by m
  pub home : (t n : ℕ) → t < born T k → IsHome T t n ↔ IsHome U t n

-- what is said of place k reads the opening and the steps below k alone
abbrev pub LocalByAgreement : Type 0
LocalByAgreement = (T U : Run) (k : ℕ) → Agree T U k → SameAt T U k

-- a later history is reached from an earlier one by moves
abbrev pub HistoriesLieOnAChain : Type 0
HistoriesLieOnAChain = (T : Run) (t j k : ℕ) → j ≤ k → Precedes (history T t j) (history T t k)

-- points never go back, and a Checkpoint or a falling step, and no other, leads to a later one
pub record PointsGrowAt (T : Run) (t k : ℕ) : Type 0 where
  pub grows : (j : ℕ) → j ≤ k → IsUpTo (point_at T t j) (point_at T t k)
  pub leaves : Leaves T t k → IsEarlier (point_at T t k) (point_at T t (suc k))
  pub stays : (¬ Leaves T t k) → point_at T t (suc k) ≡ point_at T t k

abbrev pub PointsGrow : Type 0
PointsGrow = (T : Run) (t k : ℕ) → PointsGrowAt T t k

-- between two places at the same point, that point is not left
abbrev pub PointsDoNotReturn : Type 0
PointsDoNotReturn = (T : Run) (t j k l : ℕ) → j ≤ l → l < k → point_at T t j ≡ point_at T t k → ¬ Leaves T t l

-- the fates of a point under the history of its transactor at place k are told by the steps below k
pub record FatesAreSteps (T : Run) (q : Point) (k : ℕ) : Type 0 where
  pub fallen : IsFallen (history T q.who k) q.interval q.incarnation ↔ MadeAt (Falls T q.who) T q k
  pub closed : IsClosed (history T q.who k) q.interval q.incarnation ↔ (IsOpeningPoint T q ⊎ MadeAt (Closes T q.who) T q k)
  pub stable : IsStable (history T q.who k) q.interval q.incarnation → MadeAt (Stabilizes T q.who) T q k
  pub reached : MadeAt (ActsAt T q.who) T q k → ¬ IsAhead (history T q.who k) q.interval q.incarnation
  pub settled : MadeAt (Stabilizes T q.who) T q k → (IsStable (history T q.who k) q.interval q.incarnation ⊎ IsClosed (history T q.who k) q.interval q.incarnation) ⊎ IsFallen (history T q.who k) q.interval q.incarnation

abbrev pub FatesAreLocal : Type 0
FatesAreLocal = (T : Run) (q : Point) (k : ℕ) → FatesAreSteps T q k

-- a transactor is stable where a Stabilize was made at its point
abbrev pub StableAtAPoint : Type 0
StableAtAPoint = (T : Run) (t k : ℕ) → IsTrue (history T t k).stable ↔ MadeAt (Stabilizes T t) T (point_at T t k) k

-- no Stabilize of the whole run is made at a point from which a volatile transactor falls
abbrev pub VolatileFallsWereNeverStable : Type 0
VolatileFallsWereNeverStable = (T : Run) (t j k : ℕ) → Falls T t j → IsFalse (history T t j).stable → Stabilizes T t k → ¬ (point_at T t k ≡ point_at T t j)

-- a transactor has one node, and a message one receiver
pub record NumbersAreMadeOnce (T : Run) : Type 0 where
  pub home : (t m n : ℕ) → IsHome T t m → IsHome T t n → m ≡ n
  pub receiver : (m u w : ℕ) → Receives T m u → Receives T m w → u ≡ w

abbrev pub EachNumberIsMadeOnce : Type 0
EachNumberIsMadeOnce = (T : Run) → WellFormed T → NumbersAreMadeOnce T
