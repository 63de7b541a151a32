-- To which point a point goes on, and by which step, where it is told how far each point is.
use Rattle.std.specs.Prelude.{◌≡◌, ◌⊎◌, ◌≤◌, ◌<◌, ℕ, suc, Bool, List, [], ◌∷◌, Option, Some, None, Contains, slice_get, length}
use Rattle.std.specs.declared.cmp.Ordering.TheVariants.{Less}
use Rattle.tau_points.specs.declared.point.Point.{Point}
use Rattle.tau_points.specs.Order.{point_cmp}
use Rattle.tau_explain.specs.declared.chains.chained.Chained.{Chained}
use Rattle.tau_explain.specs.Chains.Chains.{IsNotAfter, IsFirstShortest, HasNoChain}
use Rattle.tau_explain.specs.Chains.Inner.Distances.{IsNearestOf, IsNext}
use Rattle.tau_trace.specs.Run.{Run, len}
use Rattle.tau_trace.specs.Histories.{Closes}
use Rattle.tau_trace.specs.Points.{point_at}
use Rattle.tau_past.specs.Carried.{Carried}
use Rattle.tau_past.specs.Tables.{Lists}
use Rattle.tau_explain.specs.Links.Links.{IsLeastMaker, IsTold, points_of}
use Rattle.tau_explain.specs.Links.Marks.{IsMarked}
use Rattle.tau_explain.specs.Links.Inner.Dependents.{IsLinked, Takes, TellsCheckpoint}

-- the nearest of the points that the step at place k carries
abbrev pub TellsNearest : Run → (Point → Option ℕ) → ℕ → Option (Point × ℕ) → Type 0
TellsNearest T far k o = IsNearestOf (Carried T k) far o

-- the first is nearer, or as near and not after the second
abbrev pub IsNotBehind : Point × ℕ → Point × ℕ → Type 0
IsNotBehind x y = (x.1 < y.1) ⊎ ((x.1 ≡ y.1) × IsNotAfter x.0 y.0)

-- the first is there, and not behind the second, where that is
abbrev pub IsNotBehindAny : Option (Point × ℕ) → Option (Point × ℕ) → Type 0
IsNotBehindAny r None = Unit {0}
IsNotBehindAny r (Some y) = (x : Point × ℕ) × (r ≡ Some x) × IsNotBehind x y

-- of links by a point and a place, the first is the second or comes before it
abbrev pub IsUpToLink : Point × ℕ → Point × ℕ → Type 0
IsUpToLink x y = (point_cmp x.0 y.0 ≡ Less) ⊎ ((x.0 ≡ y.0) × (x.1 ≤ y.1))

abbrev pub IsUpToAny : Option (Point × ℕ) → Option (Point × ℕ) → Type 0
IsUpToAny r None = Unit {0}
IsUpToAny r (Some y) = (x : Point × ℕ) × (r ≡ Some x) × IsUpToLink x y

-- the least of the links of a set; None where it has none
abbrev pub IsLeastLink : (Point → ℕ → Type 0) → Option (Point × ℕ) → Type 0
IsLeastLink P None = (q : Point) (j : ℕ) → ¬ P q j
IsLeastLink P (Some x) = P x.0 x.1 × ((q : Point) (j : ℕ) → P q j → IsUpToLink x (q, j))

-- the step at the place is marked, and q is the nearest of what it carries, at the distance
pub record IsLinkAt (marks : List Bool) (nearest : List (Option (Point × ℕ))) (place distance : ℕ) (q : Point) (j : ℕ) : Type 0 where
  pub place_is : j ≡ place
  pub marked : IsMarked marks place
  pub nearest_is : slice_get nearest place ≡ Some (Some (q, distance))

-- by the step at a marked place p takes what it carries, of which q is the nearest, at the distance
pub record TakesNearest (T : Run) (marks : List Bool) (nearest : List (Option (Point × ℕ))) (p : Point) (distance : ℕ) (q : Point) (j : ℕ) : Type 0 where
  pub takes : Takes T marks p j
  pub nearest_is : slice_get nearest j ≡ Some (Some (q, distance))

-- q is the closing point before p, closed by the marked step at place j, and at the distance
pub record ClosesAtDistance (T : Run) (marks : List Bool) (far : Point → Option ℕ) (p : Point) (distance : ℕ) (q : Point) (j : ℕ) : Type 0 where
  pub marked : IsMarked marks j
  pub closes : Closes T p.who j
  pub at_point : q ≡ point_at T p.who j
  pub interval_is : p.interval ≡ suc q.interval
  pub at : far q ≡ Some distance

-- one of both
abbrev pub LinksAtDistance : Run → List Bool → List (Option (Point × ℕ)) → (Point → Option ℕ) → Point → ℕ → Point → ℕ → Type 0
LinksAtDistance T marks nearest far p distance q j = TakesNearest T marks nearest p distance q j ⊎ ClosesAtDistance T marks far p distance q j

-- what a search by levels tells, without the set to which it measures
pub record HasLevels (L : Point → Point → Type 0) (far : Point → Option ℕ) : Type 0 where
  pub on : (p : Point) (n : ℕ) → far p ≡ Some (suc n) → (q : Point) × L p q × (far q ≡ Some n)
  pub near : (p q : Point) (n : ℕ) → L p q → far q ≡ Some n → (m : ℕ) × (far p ≡ Some m) × (m ≤ suc n)

-- how far each point is, the nearest that each step carries, and where each interval was closed
pub record AreLevels (T : Run) (marks : List Bool) (far : Point → Option ℕ) (nearest : List (Option (Point × ℕ))) (checkpoints : Point → Option ℕ) : Type 0 where
  pub count : length marks ≡ len T
  pub nearest_told : Lists (len T) (TellsNearest T far) nearest
  pub closed : (q : Point) → TellsCheckpoint T marks q (checkpoints q)
  pub levels : HasLevels (IsLinked T marks) far

-- p goes on to the point, by the least marked place of a step that makes the link
pub record GoesOnTo (T : Run) (marks : List Bool) (far : Point → Option ℕ) (p : Point) (c : Chained) (distance : ℕ) : Type 0 where
  pub next : IsNext (IsLinked T marks) far p c.point distance
  pub place : ℕ
  pub by_is : c.by ≡ Some place
  pub least : IsLeastMaker T (IsMarked marks) p c.point place

-- a point to which the table has another goes on to that
abbrev pub AreNexts : Run → List Bool → (Point → Option ℕ) → (Point → Option Chained) → Type 0
AreNexts T marks far nexts = (p : Point) (c : Chained) → nexts p ≡ Some c → (n : ℕ) × GoesOnTo T marks far p c n

-- each point of the list goes on to its next, from p to last
abbrev pub GoOn : Run → List Bool → (Point → Option ℕ) → Point → List Chained → Point → Type 0
GoOn T marks far p [] last = p ≡ last
GoOn T marks far p (c ∷ cs) last = ((n : ℕ) × GoesOnTo T marks far p c n) × GoOn T marks far c.point cs last

-- the list begins with p and goes on to last
pub record GoesTo (T : Run) (marks : List Bool) (far : Point → Option ℕ) (p : Point) (chain : List Chained) (last : Point) : Type 0 where
  pub rest : List Chained
  pub is : chain ≡ record { point = p; by = None } ∷ rest
  pub goes : GoOn T marks far p rest last

-- the list begins with p and goes on down to the set
pub record GoesDown (T : Run) (marks : List Bool) (far : Point → Option ℕ) (p : Point) (chain : List Chained) : Type 0 where
  pub last : Point
  pub goes : GoesTo T marks far p chain last
  pub ends : far last ≡ Some 0

-- what goes down from p to the set; None where p has no distance
abbrev pub IsDownFrom : Run → List Bool → (Point → Option ℕ) → Point → Option (List Chained) → Type 0
IsDownFrom T marks far p None = far p ≡ None
IsDownFrom T marks far p (Some chain) = ((n : ℕ) × (far p ≡ Some n)) × GoesDown T marks far p chain

-- what goes down from each of the first n points
pub record AreDown (T : Run) (marks : List Bool) (far : Point → Option ℕ) (from : List Point) (n : ℕ) (chains : List (Option (List Chained))) : Type 0 where
  pub count : length chains ≡ n
  pub within : n ≤ length from
  pub each : (k : ℕ) (p : Point) (o : Option (List Chained)) → slice_get from k ≡ Some p → slice_get chains k ≡ Some o → IsDownFrom T marks far p o

-- the first of the shortest chains by marked steps, with its places; None where there is none
pub record IsFirstByMarks (T : Run) (marks : List Bool) (S C : Point → Type 0) (chain : List Chained) : Type 0 where
  pub told : IsTold T (IsMarked marks) chain
  pub first : IsFirstShortest (IsLinked T marks) S C (points_of chain)

abbrev pub IsFirstChain : Run → List Bool → (Point → Type 0) → (Point → Type 0) → Option (List Chained) → Type 0
IsFirstChain T marks S C None = HasNoChain (IsLinked T marks) S C
IsFirstChain T marks S C (Some chain) = IsFirstByMarks T marks S C chain

-- so it is from each point of a list
pub record AreFirstChains (T : Run) (marks : List Bool) (from : List Point) (C : Point → Type 0) (chains : List (Option (List Chained))) : Type 0 where
  pub count : length chains ≡ length from
  pub each : (k : ℕ) (p : Point) (o : Option (List Chained)) → slice_get from k ≡ Some p → slice_get chains k ≡ Some o → IsFirstChain T marks (Contains (p ∷ [])) C o
