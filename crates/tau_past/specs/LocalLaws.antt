-- What is heard, carried and decided at a place reads the opening and the steps before it alone.
use Rattle.std.specs.Prelude.{ℕ, ◌<◌, ◌≤◌, ◌↔◌, List}
use Rattle.tau_value.specs.declared.shared.Value.{Value}
use Rattle.tau_history.specs.Timeline.{interval}
use Rattle.tau_points.specs.declared.point.Point.{Point}
use Rattle.tau_trace.specs.Run.{Run, Agree}
use Rattle.tau_trace.specs.Numbering.{born, sent}
use Rattle.tau_trace.specs.Histories.{history}
use Rattle.tau_trace.specs.Known.{WellFormed}
use Rattle.tau_past.specs.Carried.{Pending, SentWith}
use Rattle.tau_past.specs.Heard.{Heard, HeardBy}
use Rattle.tau_past.specs.Decisions.{Judgement, Verdict, Free}
use Rattle.tau_past.specs.States.{StateAt}

-- what is decided at place k is the same in both runs
pub record SameDecisionsAt (T U : Run) (k : ℕ) : Type 0 where
  pub heard : (t j : ℕ) → t < born T k → Heard T t k j ↔ Heard U t k j
  pub heard_by : (m j : ℕ) → m < sent T k → HeardBy T m j ↔ HeardBy U m j
  pub pending : (t : ℕ) (q : Point) → Pending T t k q ↔ Pending U t k q
  pub sent_with : (m : ℕ) (q : Point) → m < sent T k → SentWith T m q ↔ SentWith U m q
  pub verdict : (t m : ℕ) (j : Judgement) → t < born T k → m < sent T k → Verdict T t k m j ↔ Verdict U t k m j
  pub free : (t : ℕ) → t < born T k → Free T t k ↔ Free U t k
  pub state : (opening : List Value) (q : Point) (v : Value) → q.who < born T k → q.interval ≤ interval (history T q.who k) → StateAt T opening q k v ↔ StateAt U opening q k v

-- runs that agree below a place decide the same there
abbrev pub DecisionsAreLocal : Type 0
DecisionsAreLocal = (T U : Run) (k : ℕ) → WellFormed T → WellFormed U → Agree T U k → SameDecisionsAt T U k
