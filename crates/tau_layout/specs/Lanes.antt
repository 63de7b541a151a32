-- The lanes of a picture (docs/formats.md, "Pictures").
use Rattle.std.specs.Prelude.{◌≡◌, ◌⊎◌, ℕ, ◌<◌, Bool, false, ◌==◌, ◌||◌, List, [], ◌∷◌, Option, Some, None, Contains, min, max, length}
use Rattle.std.specs.List.{AllPairs}
use Rattle.tau_value.specs.Written.{name_written}
use Rattle.tau_trace.specs.declared.step.Step.{Step}
use Rattle.tau_trace.specs.declared.step.Step.TheVariants.{Lose, Repeat}
use Rattle.tau_trace.specs.Steps.{actor}
use Rattle.tau_trace.specs.Run.{Run, step_at}
use Rattle.tau_trace.specs.Numbering.{Receives, IsHome}
use Rattle.tau_trace.specs.Places.{count_below}
use Rattle.tau_layout.specs.declared.lanes.Lane.{Lane}
use Rattle.tau_svg.specs.declared.shapes.window.Window.{Window}
use Rattle.tau_svg.specs.Shapes.Windows.{IsDrawn}

-- a step stands in the lane of its actor; a Lose and a Repeat, which have none, in that of the receiver of their message
abbrev pub StepStandsIn : Run → Step → ℕ → Type 0
StepStandsIn T (Lose m) t = Receives T m t
StepStandsIn T (Repeat m) t = Receives T m t
StepStandsIn T s t = actor s ≡ Some t

-- the step at place k stands in the lane of t
pub record StandsIn (T : Run) (k t : ℕ) : Type 0 where
  pub step : Step
  pub stands : step_at T k ≡ Some step
  pub lane : StepStandsIn T step t

-- the transactor in whose lane a step stands; None where there is none
abbrev pub IsLaneOfStep : Run → Step → Option ℕ → Type 0
IsLaneOfStep T s None = (t : ℕ) → ¬ StepStandsIn T s t
IsLaneOfStep T s (Some t) = StepStandsIn T s t

-- the transactor in whose lane the step at place k stands; None where no step stands at k
abbrev pub IsLaneAt : Run → ℕ → Option ℕ → Type 0
IsLaneAt T k None = (t : ℕ) → ¬ StandsIn T k t
IsLaneAt T k (Some t) = StandsIn T k t

-- a transactor has a lane where a drawn step stands in it
pub record HasLane (T : Run) (v : Window) (t : ℕ) : Type 0 where
  pub place : ℕ
  pub drawn : IsDrawn v place
  pub stands : StandsIn T place t

-- one lane comes before another: its node is before the other's, or they have one node and its number is less
abbrev pub ComesBefore : Lane → Lane → Type 0
ComesBefore l m = (l.node < m.node) ⊎ ((l.node ≡ m.node) × (l.who < m.who))

-- the lanes, by node and then by number: one for each transactor that has a lane, with its node
pub record AreLanes (T : Run) (v : Window) (lanes : List Lane) : Type 0 where
  pub ascending : AllPairs ComesBefore lanes
  pub only : (l : Lane) → Contains lanes l → HasLane T v l.who × IsHome T l.who l.node
  pub all : (t n : ℕ) → HasLane T v t → IsHome T t n → Contains lanes (record { node = n; who = t })

-- some lane stands at node n
abbrev pub stands_at : List Lane → ℕ → Bool
stands_at [] n = false
stands_at (l ∷ lanes) n = (l.node == n) || stands_at lanes n

-- how many nodes below node n have a lane
abbrev pub nodes_below : List Lane → ℕ → ℕ
nodes_below lanes n = count_below (stands_at lanes) n

-- the number of bytes of a name, or 12 where it has more
abbrev pub name_length : List (List ℕ) → ℕ → ℕ
name_length names t = min (length (name_written names t)) 12

-- the most of a lane's
abbrev pub longest_name : List (List ℕ) → List Lane → ℕ
longest_name names [] = 0
longest_name names (l ∷ lanes) = max (name_length names l.who) (longest_name names lanes)
