-- What tells whether a point of a past is rolled back.
use Rattle.std.specs.Prelude.{◌≡◌, ◌↔◌, ℕ, ◌<◌, ◌≤◌, Bool, IsTrue, List, ◌∷◌, [], ◌++◌, Option, Some, None, Contains, slice_get, length}
use Rattle.std.specs.declared.alloc.Global.{Global}
use Rattle.std.specs.declared.vec.Vec.{Vec}
use Rattle.tau_points.specs.declared.point.Point.{Point}
use Rattle.tau_explain.specs.declared.chains.chained.Chained.{Chained}
use Rattle.tau_trace.specs.Run.{Run, len}
use Rattle.tau_past.specs.Carried.{Carried}
use Rattle.tau_past.specs.Audits.{ChecksAt}
use Rattle.tau_past.specs.Safety.{RolledBack}
use Rattle.tau_explain.specs.Links.Links.{IsMade}
use Rattle.tau_explain.specs.Links.Marks.{IsMarked}
use Rattle.tau_cut.specs.declared.cut.Marked.{Marked}
use Rattle.tau_cut.specs.Cuts.{places_in}
use Rattle.tau_scene.specs.declared.timelines.states.State.{State}
use Rattle.tau_scene.specs.declared.causes.sources.Source.{Source}
use Rattle.tau_scene.specs.declared.causes.sources.Source.TheVariants as sources
use Rattle.tau_scene.specs.declared.causes.sources.Sourced.{Sourced}
use Rattle.tau_scene.specs.Causes.Looks.{RestsOnFallen}

-- q is one of the first n points, and has a chain
pub record HasChainAt (points : List Point) (chains : List (Option (List Chained))) (n : ℕ) (q : Point) : Type 0 where
  pub at : ℕ
  pub below : at < n
  pub chain : List Chained
  pub point_is : slice_get points at ≡ Some q
  pub chain_is : slice_get chains at ≡ Some (Some chain)

-- a point that has a chain is added
abbrev pub PushesIf : Option (List Chained) → Point → List Point → List Point → Type 0
PushesIf None p points0 points = points ≡ points0
PushesIf (Some chain) p points0 points = points ≡ points0 ++ p ∷ []

-- a point that the step at place j carries has a rolled-back point in its past
abbrev pub CarriesFallen : Run → ℕ → Type 0
CarriesFallen T j = (q : Point) × Carried T j q × RestsOnFallen T q

-- what tells whether a point of p's past is rolled back
abbrev pub IsSource : Run → Point → Source → Type 0
IsSource T p (sources.Point q) = IsMade T q × (RestsOnFallen T p ↔ RestsOnFallen T q)
IsSource T p (sources.Birth j) = RestsOnFallen T p ↔ CarriesFallen T j
IsSource T p sources.Nothing = ¬ RestsOnFallen T p

-- a state, with what tells of its past
pub record IsSourced (T : Run) (s : State) (x : Sourced) : Type 0 where
  pub state_is : x.state ≡ s
  pub source_is : IsSource T s.point x.source

-- so it is of the first n states
pub record AreSourced (T : Run) (states : List State) (n : ℕ) (sourced : List Sourced) : Type 0 where
  pub count_is : length sourced ≡ n
  pub each : (i : ℕ) (s : State) (x : Sourced) → slice_get states i ≡ Some s → slice_get sourced i ≡ Some x → IsSourced T s x

-- and of all states of the first n lanes
pub record AreLanesSourced (T : Run) (lanes : List (Vec State Global)) (n : ℕ) (sourced : List (Vec Sourced Global)) : Type 0 where
  pub count_is : length sourced ≡ n
  pub each : (rank : ℕ) (v : Vec State Global) (w : Vec Sourced Global) → slice_get lanes rank ≡ Some v → slice_get sourced rank ≡ Some w → AreSourced T v.items (length v.items) w.items

-- the source of one of the first n states of a lane is point q
pub record AsksIn (lane : List Sourced) (n : ℕ) (q : Point) : Type 0 where
  pub at : ℕ
  pub below : at < n
  pub sourced : Sourced
  pub there : slice_get lane at ≡ Some sourced
  pub asks : sourced.source ≡ sources.Point q

-- that of one of the states of the first n lanes is
pub record AsksInLanes (lanes : List (Vec Sourced Global)) (n : ℕ) (q : Point) : Type 0 where
  pub rank : ℕ
  pub below : rank < n
  pub lane : Vec Sourced Global
  pub there : slice_get lanes rank ≡ Some lane
  pub asks : AsksIn lane.items (length lane.items) q

-- a Checkpoint was made at q, at a place from one up to another
pub record ChecksBetween (T : Run) (from to : ℕ) (q : Point) : Type 0 where
  pub place : ℕ
  pub least : from ≤ place
  pub most : place < to
  pub checks : ChecksAt T place q

-- what the looks are told by, where these points are asked for
pub record AreGrounds (T : Run) (cut : List Marked) (asked : List Point) (fallen : List Point) (kept : List Bool) (resting : List Point) : Type 0 where
  pub fallen_are : (q : Point) → Contains fallen q ↔ RolledBack T q
  pub kept_count : length kept ≡ len T
  pub kept_are : (k : ℕ) → Contains (places_in cut) k ↔ IsMarked kept k
  pub resting_are : (q : Point) → Contains asked q → Contains resting q ↔ RestsOnFallen T q

-- a source was asked for: what rests is told of its point, if it has one
abbrev pub IsAsked : Run → List Point → Source → Type 0
IsAsked T resting (sources.Point q) = Contains resting q ↔ RestsOnFallen T q
IsAsked T resting source = Unit {0}

-- the answer is that of each point that has the source
abbrev pub IsTold : Run → List Point → Source → Bool → Type 0
IsTold T resting source b = (p : Point) → IsSource T p source → IsAsked T resting source → IsTrue b ↔ RestsOnFallen T p
