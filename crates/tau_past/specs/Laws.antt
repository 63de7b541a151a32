-- Laws of pasts and decisions, each the contract of a function of the crate.
use Rattle.std.specs.Prelude.{◌≡◌, ℕ, ◌<◌, length}
use Rattle.tau_points.specs.declared.point.Point.{Point}
use Rattle.tau_trace.specs.Run.{Run, starts}
use Rattle.tau_trace.specs.Histories.{Falls}
use Rattle.tau_trace.specs.Points.{IsOpeningPoint}
use Rattle.tau_trace.specs.Known.{WellFormed}
use Rattle.tau_past.specs.Carried.{SentWith}
use Rattle.tau_past.specs.Heard.{Heard}
use Rattle.tau_past.specs.Pasts.{Past}
use Rattle.tau_past.specs.Decisions.{Judgement, takes, Verdict}
use Rattle.tau_past.specs.Safety.{Safe, KeepsRules}

-- a trace that keeps the rules is safe
abbrev pub RulesMakeSafe : Type 0
RulesMakeSafe = (T : Run) → WellFormed T → KeepsRules T → Safe T

-- before the first step a start has heard nothing
abbrev pub NothingHeardAtFirst : Type 0
NothingHeardAtFirst = (T : Run) (t j : ℕ) → WellFormed T → t < starts T → ¬ Heard T t 0 j

-- a post carries nothing
abbrev pub PostsCarryNothing : Type 0
PostsCarryNothing = (T : Run) (m : ℕ) (q : Point) → m < length T.opening.targets → ¬ SentWith T m q

-- the past of a start's opening point is that point alone
abbrev pub OpeningPointsStandAlone : Type 0
OpeningPointsStandAlone = (T : Run) (p q : Point) → IsOpeningPoint T p → Past T p q → q ≡ p

-- where nothing falls, every verdict is Take
abbrev pub WithoutFallsAllIsTaken : Type 0
WithoutFallsAllIsTaken = (T : Run) (t k m : ℕ) (j : Judgement) → ((u l : ℕ) → ¬ Falls T u l) → Verdict T t k m j → j ≡ takes
