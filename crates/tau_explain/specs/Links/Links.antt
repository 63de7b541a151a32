-- Steps that make links, and the first of the shortest chains with the place of a step for each link (docs/definitions.md,
-- "Chain").
use Rattle.std.specs.Prelude.{◌≡◌, ℕ, suc, ◌≤◌, List, [], ◌∷◌, Option, Some, None, map, length, slice_get}
use Rattle.tau_points.specs.declared.point.Point.{Point}
use Rattle.tau_explain.specs.declared.chains.chained.Chained.{Chained}
use Rattle.tau_explain.specs.Chains.Chains.{IsFirstShortest, HasNoChain}
use Rattle.tau_trace.specs.Run.{Run, ActsAt}
use Rattle.tau_trace.specs.Histories.{Closes}
use Rattle.tau_trace.specs.Points.{point_at}
use Rattle.tau_past.specs.Carried.{TakesBy}
use Rattle.tau_past.specs.Pasts.{Link, Is, Everywhere}

-- the step at place j makes the link: by it p takes q, or it is the Checkpoint that ended, at q, the interval before p's
pub data Makes (T : Run) (j : ℕ) (p q : Point) : Type 0 where
  takes : TakesBy T j p q → Makes T j p q
  closes : Closes T p.who j → q ≡ point_at T p.who j → p.interval ≡ suc q.interval → Makes T j p q

-- k is the least place in H of a step that makes the link
pub record IsLeastMaker (T : Run) (H : ℕ → Type 0) (p q : Point) (k : ℕ) : Type 0 where
  pub held : H k
  pub makes : Makes T k p q
  pub least : (j : ℕ) → H j → Makes T j p q → k ≤ j

-- behind p, each point has the least place in H of a step that makes the link to it
abbrev pub HaveMakers : Run → (ℕ → Type 0) → Point → List Chained → Type 0
HaveMakers T H p [] = Unit {0}
HaveMakers T H p (c ∷ cs) = ((k : ℕ) × (c.by ≡ Some k) × IsLeastMaker T H p c.point k) × HaveMakers T H c.point cs

-- the first point has no place, each later one has
abbrev pub IsTold : Run → (ℕ → Type 0) → List Chained → Type 0
IsTold T H [] = ⊥
IsTold T H (c ∷ cs) = (c.by ≡ None) × HaveMakers T H c.point cs

-- the points of a chain
abbrev pub points_of : List Chained → List Point
points_of cs = map (λ c. c.point) cs

-- what is told: the first of the shortest chains over the links in H from S to C, with its places
pub record IsFirstTold (T : Run) (H : ℕ → Type 0) (S C : Point → Type 0) (chain : List Chained) : Type 0 where
  pub told : IsTold T H chain
  pub first : IsFirstShortest (Link T H) S C (points_of chain)

-- a step was made at q
pub record IsMade (T : Run) (q : Point) : Type 0 where
  pub place : ℕ
  pub acts : ActsAt T q.who place
  pub at_point : q ≡ point_at T q.who place

-- what is told of a point: the first of the shortest chains from it to C, by the whole trace; None where there is none
abbrev pub IsChainFrom : Run → (Point → Type 0) → Point → Option (List Chained) → Type 0
IsChainFrom T C p None = HasNoChain (Link T Everywhere) (Is p) C
IsChainFrom T C p (Some chain) = IsFirstTold T Everywhere (Is p) C chain

-- what is told of each point of a list
pub record AreChainsFrom (T : Run) (from : List Point) (C : Point → Type 0) (chains : List (Option (List Chained))) : Type 0 where
  pub count : length chains ≡ length from
  pub each : (k : ℕ) (p : Point) (o : Option (List Chained)) → slice_get from k ≡ Some p → slice_get chains k ≡ Some o → IsChainFrom T C p o
