-- Marks of transactors and of nodes, a truth for each.
use Rattle.std.specs.Prelude.{◌≡◌, ◌⊎◌, ◌↔◌, ℕ, suc, ◌<◌, ◌≤◌, Bool, true, false, if◌then◌else◌, List, [], ◌∷◌, ◌++◌, Some, slice_get, length, Contains}
use Rattle.std.specs.List.{AllPairs}
use Rattle.std.specs.Option.{option_map_or}
use Rattle.tau_trace.specs.Places.{count_below}
use Rattle.tau_trace.specs.Run.{Run}
use Rattle.tau_trace.specs.Numbering.{IsHome}
use Rattle.tau_layout.specs.declared.lanes.Lane.{Lane}
use Rattle.tau_svg.specs.declared.shapes.window.Window.{Window}
use Rattle.tau_layout.specs.Lanes.{HasLane, stands_at}

-- a number is marked
abbrev pub IsMarked : List Bool → ℕ → Type 0
IsMarked marks t = slice_get marks t ≡ Some true

-- of the numbers that have a mark, those are marked that were, and those of which P holds
pub record Marks (P : ℕ → Type 0) (old new : List Bool) : Type 0 where
  pub count : length new ≡ length old
  pub marked : (t : ℕ) → IsMarked new t ↔ (IsMarked old t ⊎ (P t × (t < length old)))

-- a drawn step before place k stands in the lane of t
pub record HasLaneBefore (T : Run) (v : Window) (k t : ℕ) : Type 0 where
  pub has : HasLane T v t
  pub before : has.place < k

-- so many marks, and those numbers are marked of which P holds
pub record AreMarks (P : ℕ → Type 0) (count : ℕ) (marks : List Bool) : Type 0 where
  pub count_is : length marks ≡ count
  pub marked : (t : ℕ) → IsMarked marks t ↔ (P t × (t < count))

-- the marked numbers below a bound, ascending
pub record AreMarked (marks : List Bool) (bound : ℕ) (numbers : List ℕ) : Type 0 where
  pub ascending : AllPairs (λ a b. a < b) numbers
  pub all : (t : ℕ) → Contains numbers t ↔ (IsMarked marks t × (t < bound))
  pub few : length numbers ≤ bound

-- the lane of t, where it stands at node n
abbrev pub lane_of : ℕ → ℕ → Lane
lane_of n t = record { node = n; who = t }

-- the lane of t is added where t stands at node n, and where it doesn't nothing is
pub data AddsLane (T : Run) (n t : ℕ) (old : List Lane) : List Lane → Type 0 where
  there : IsHome T t n → AddsLane T n t old (old ++ lane_of n t ∷ [])
  away : ¬ IsHome T t n → AddsLane T n t old old

-- the same for each of some numbers, in their order
pub data AddsLanes (T : Run) (n : ℕ) : List ℕ → List Lane → List Lane → Type 0 where
  no_numbers : {old : List Lane} → AddsLanes T n [] old old
  next_number : {ts : List ℕ} {t : ℕ} {old new last : List Lane} → AddsLanes T n ts old new → AddsLane T n t new last → AddsLanes T n (ts ++ t ∷ []) old last

-- and for each node below a bound
pub data AddsNodes (T : Run) (ts : List ℕ) : ℕ → List Lane → Type 0 where
  no_nodes : AddsNodes T ts 0 []
  next_node : {n : ℕ} {old new : List Lane} → AddsNodes T ts n old → AddsLanes T n ts old new → AddsNodes T ts (suc n) new

-- for each of so many nodes a mark, where some lane stands at it
abbrev pub IsNodesMarked : List Lane → ℕ → List Bool → Type 0
IsNodesMarked lanes nodes marks = AreMarks (λ n. stands_at lanes n ≡ true) nodes marks

-- 1 where a number is marked, and else 0
abbrev pub one_if_marked : List Bool → ℕ → ℕ
one_if_marked marks n = if option_map_or (λ mark. mark) (slice_get marks n) false then 1 else 0

-- how many of the numbers below n are marked
abbrev pub marked_below : List Bool → ℕ → ℕ
marked_below marks n = count_below (λ k. option_map_or (λ mark. mark) (slice_get marks k) false) n
