-- What a Hold, a Drop or a Fall has heard, and where chains to a cause of it begin and end (docs/definitions.md, "Cause").
use Rattle.std.specs.Prelude.{◌≡◌, ℕ, Bool, true, false, List, Some, IsTrue}
use Rattle.tau_points.specs.declared.point.Point.{Point}
use Rattle.tau_explain.specs.Chains.Chains.{IsChain}
use Rattle.tau_trace.specs.declared.step.Step.{Step}
use Rattle.tau_trace.specs.declared.step.Step.TheVariants.{Hold, Drop, Fall}
use Rattle.tau_trace.specs.Run.{Run, step_at}
use Rattle.tau_trace.specs.Points.{point_at}
use Rattle.tau_past.specs.Carried.{SentWith}
use Rattle.tau_past.specs.Heard.{Heard, HeardTogether}
use Rattle.tau_past.specs.Pasts.{Link, Is, FellIn, FirmIn}
use Rattle.tau_past.specs.Decisions.{FallsBy, DropsBy, Free}
use Rattle.tau_explain.specs.Links.Links.{IsFirstTold}
use Rattle.tau_explain.specs.declared.answers.Why.{Why}
use Rattle.tau_explain.specs.declared.answers.Why.TheVariants as answers

-- the kinds that are decided by what was heard: Hold, Drop and Fall
abbrev pub is_decision : Step → Bool
is_decision (Hold t) = true
is_decision (Drop t m) = true
is_decision (Fall t m) = true
is_decision s = false

-- the places that the decision at place k has heard of: a Drop and a Fall have heard of their message too
abbrev pub HeardAt : Run → ℕ → Step → ℕ → Type 0
HeardAt T k (Hold t) j = Heard T t k j
HeardAt T k (Drop t m) j = HeardTogether T t k m j
HeardAt T k (Fall t m) j = HeardTogether T t k m j
HeardAt T k s j = ⊥

-- where a chain begins: at the transactor's own point, or for a Drop at a point that its message carries
abbrev pub Source : Run → ℕ → Step → Point → Type 0
Source T k (Hold t) q = Is (point_at T t k) q
Source T k (Drop t m) q = SentWith T m q
Source T k (Fall t m) q = Is (point_at T t k) q
Source T k s q = ⊥

-- where a chain ends: at a point that by what was heard is not firm, or for a Drop and a Fall is fallen
abbrev pub Cause : Run → ℕ → Step → Point → Type 0
Cause T k (Hold t) q = ¬ FirmIn T (Heard T t k) q
Cause T k (Drop t m) q = FellIn T (HeardTogether T t k m) q
Cause T k (Fall t m) q = FellIn T (HeardTogether T t k m) q
Cause T k s q = ⊥

-- what a decision without a cause means
abbrev pub IsGroundless : Run → ℕ → Step → Type 0
IsGroundless T k (Hold t) = Free T t k
IsGroundless T k (Drop t m) = ¬ DropsBy T t k m
IsGroundless T k (Fall t m) = ¬ FallsBy T t k m
IsGroundless T k s = ⊥

-- step s, a Hold, a Drop or a Fall, stands at place k
pub record IsAsked (T : Run) (k : ℕ) (s : Step) : Type 0 where
  pub stands : step_at T k ≡ Some s
  pub decides : IsTrue (is_decision s)

-- a Hold, a Drop or a Fall stands at place k
abbrev pub IsDecision : Run → ℕ → Type 0
IsDecision T k = (s : Step) × IsAsked T k s

-- each decision of the trace has its ground, as in each legal trace
abbrev pub IsGrounded : Run → Type 0
IsGrounded T = (k : ℕ) (s : Step) → IsAsked T k s → ¬ IsGroundless T k s

-- a chain from a source of the decision to a cause of it, over links that it has heard of
abbrev pub IsAnswer : Run → ℕ → Step → List Point → Type 0
IsAnswer T k s points = IsChain (Link T (HeardAt T k s)) (Source T k s) (Cause T k s) points

-- the answer to why the decision at place k was made: the first of the shortest chains, with the places of the steps that make
-- its links; or that there is none, and the decision has no ground; or that no decision stands there
abbrev pub IsWhy : Run → ℕ → Why → Type 0
IsWhy T k (answers.Chain chain) = (s : Step) × IsAsked T k s × IsFirstTold T (HeardAt T k s) (Source T k s) (Cause T k s) chain
IsWhy T k answers.NoChain = (s : Step) × IsAsked T k s × ((points : List Point) → ¬ IsAnswer T k s points) × IsGroundless T k s
IsWhy T k answers.NotAsked = ¬ IsDecision T k
