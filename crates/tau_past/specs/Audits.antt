-- What an audit finds (docs/definitions.md, "Safe").
use Rattle.std.specs.Prelude.{◌≡◌, ◌⊎◌, ℕ, ◌<◌, List, Option, Some, None, Contains}
use Rattle.std.specs.declared.cmp.Ordering.TheVariants.{Less}
use Rattle.tau_points.specs.declared.point.Point.{Point}
use Rattle.tau_points.specs.Order.{point_cmp}
use Rattle.tau_trace.specs.Run.{Run, len}
use Rattle.tau_trace.specs.Places.{IsFirst}
use Rattle.tau_trace.specs.Histories.{Falls, Closes}
use Rattle.tau_trace.specs.Points.{point_at}
use Rattle.tau_past.specs.declared.findings.Audit.{Audit}
use Rattle.tau_past.specs.declared.findings.Audit.TheVariants as audits
use Rattle.tau_past.specs.declared.findings.Breach.{Breach}
use Rattle.tau_past.specs.Pasts.{Past}
use Rattle.tau_past.specs.Inner.Searching.{PastHasFallen, FoundNoFallen}
use Rattle.tau_past.specs.Safety.{RolledBack, Safe}

-- a Checkpoint stands at place k, made at point p
pub record ChecksAt (T : Run) (k : ℕ) (p : Point) : Type 0 where
  pub by : ℕ
  pub closes : Closes T by k
  pub at_point : p ≡ point_at T by k

-- a Checkpoint stands at place k, and the past of its point holds q, which is rolled back
pub record Breaks (T : Run) (k : ℕ) (q : Point) : Type 0 where
  pub point : Point
  pub checks : ChecksAt T k point
  pub in_past : Past T point q
  pub rolled_back : RolledBack T q

-- the Checkpoint at place k breaks the safety of the trace
pub record IsBrokenAt (T : Run) (k : ℕ) : Type 0 where
  pub root : Point
  pub breaks : Breaks T k root

-- the first point is not after the second
abbrev pub IsNotAfter : Point → Point → Type 0
IsNotAfter p q = (p ≡ q) ⊎ (point_cmp p q ≡ Less)

-- the least rolled-back point in the past of the Checkpoint's point
pub record IsLeastBreak (T : Run) (k : ℕ) (q : Point) : Type 0 where
  pub breaks : Breaks T k q
  pub least : (r : Point) → Breaks T k r → IsNotAfter q r

-- point q is rolled back by the step at place j
abbrev pub RollsBackAt : Run → Point → ℕ → Type 0
RollsBackAt T q j = Falls T q.who j × (q ≡ point_at T q.who j)

-- the first Checkpoint that breaks the safety of the trace, the least point by which it does, and the first place at which
-- that point was rolled back
pub record IsBroken (T : Run) (c : ℕ) (q : Point) (f : ℕ) : Type 0 where
  pub checkpoint : IsFirst (IsBrokenAt T) (len T) (Some c)
  pub point : IsLeastBreak T c q
  pub fall : IsFirst (RollsBackAt T q) (len T) (Some f)

-- the answer is Broken, and right
abbrev pub IsUnsafe : Run → Audit → Type 0
IsUnsafe T audits.Safe = ⊥
IsUnsafe T (audits.Broken c q f) = IsBroken T c q f

-- the answer is right
abbrev pub IsAudit : Run → Audit → Type 0
IsAudit T audits.Safe = Safe T
IsAudit T (audits.Broken c q f) = IsBroken T c q f

-- Parts of an audit, from here on.

-- the first Checkpoint that breaks the safety of the trace, and its point; None where none does
abbrev pub IsFirstBreach : Run → Option Breach → Type 0
IsFirstBreach T None = (j : ℕ) → ¬ IsBrokenAt T j
IsFirstBreach T (Some b) = ChecksAt T b.place b.point × PastHasFallen T b.point × ((j : ℕ) → j < b.place → ¬ IsBrokenAt T j)

-- the past of the Checkpoint at place k, if one stands there, is found, and no rolled-back point is new
pub record AddsSafely (T : Run) (k : ℕ) (found0 found : List Point) : Type 0 where
  pub kept : (q : Point) → Contains found0 q → Contains found q
  pub covered : (p q : Point) → ChecksAt T k p → Past T p q → Contains found q
  pub safe : FoundNoFallen T found0 found

-- the point of the Checkpoint at place k, where its past holds a rolled-back point
abbrev pub Checked : Run → ℕ → List Point → List Point → Option Point → Type 0
Checked T k found0 found None = AddsSafely T k found0 found
Checked T k found0 found (Some p) = ChecksAt T k p × PastHasFallen T p

-- the least rolled-back point of a list
abbrev pub IsLeastFallen : Run → List Point → Option Point → Type 0
IsLeastFallen T points None = (q : Point) → Contains points q → ¬ RolledBack T q
IsLeastFallen T points (Some p) = Contains points p × RolledBack T p × ((q : Point) → Contains points q → RolledBack T q → IsNotAfter p q)
