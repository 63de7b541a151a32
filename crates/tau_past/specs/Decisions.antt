-- Verdicts and freedom, by what was heard (docs/definitions.md, "Verdict", "Free").
use Rattle.std.specs.Prelude.{ℕ}
use Rattle.tau_points.specs.declared.point.Point.{Point}
use Rattle.tau_trace.specs.Run.{Run}
use Rattle.tau_trace.specs.Points.{point_at}
use Rattle.tau_past.specs.Carried.{SentWith}
use Rattle.tau_past.specs.Heard.{Heard, HeardTogether}
use Rattle.tau_past.specs.Pasts.{PastIn, Is, FellIn, FirmIn}

-- the known past in H of some points holds a point that is known fallen in H
pub record HasFallen (T : Run) (H : ℕ → Type 0) (P : Point → Type 0) : Type 0 where
  pub cause : Point
  pub in_past : PastIn T H P cause
  pub fallen : FellIn T H cause

-- by what t at place k and message m have heard, t's own past holds a fallen point
abbrev pub FallsBy : Run → ℕ → ℕ → ℕ → Type 0
FallsBy T t k m = HasFallen T (HeardTogether T t k m) (Is (point_at T t k))

-- by the same, the past of what m carries holds a fallen point
abbrev pub DropsBy : Run → ℕ → ℕ → ℕ → Type 0
DropsBy T t k m = HasFallen T (HeardTogether T t k m) (SentWith T m)

pub data Judgement : Type 0 where
  takes : Judgement
  drops : Judgement
  falls : Judgement

-- the verdict of message m at transactor t at place k
pub data Verdict (T : Run) (t k m : ℕ) : Judgement → Type 0 where
  fall : FallsBy T t k m → Verdict T t k m falls
  drop : ¬ FallsBy T t k m → DropsBy T t k m → Verdict T t k m drops
  take : ¬ FallsBy T t k m → ¬ DropsBy T t k m → Verdict T t k m takes

-- t is free at place k: each point in the known past of its point, in what it has heard, is known firm there
abbrev pub Free : Run → ℕ → ℕ → Type 0
Free T t k = (q : Point) → PastIn T (Heard T t k) (Is (point_at T t k)) q → FirmIn T (Heard T t k) q
