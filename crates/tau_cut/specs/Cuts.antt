-- The greatest consistent set of checkpoints (docs/definitions.md, "Consistent").
use Rattle.std.specs.Prelude.{ℕ, ◌<◌, ◌↔◌, List, [], ◌∷◌, Contains, map}
use Rattle.std.specs.List.Sorted.{IsStrictlySortedBy}
use Rattle.std.specs.Ordering.{nat_cmp}
use Rattle.tau_points.specs.declared.point.Point.{Point}
use Rattle.tau_explain.specs.declared.chains.chained.Chained.{Chained}
use Rattle.tau_trace.specs.Run.{Run}
use Rattle.tau_trace.specs.Histories.{Closes}
use Rattle.tau_past.specs.Pasts.{Past, Is, Everywhere}
use Rattle.tau_past.specs.Audits.{ChecksAt}
use Rattle.tau_past.specs.Safety.{RolledBack}
use Rattle.tau_explain.specs.Links.Links.{IsFirstTold}
use Rattle.tau_cut.specs.declared.cut.Marked.{Marked}
use Rattle.tau_cut.specs.declared.cut.Marked.TheVariants.{In, Out}
use Rattle.tau_cut.specs.Consistent.{KeptAble, IsConsistent}

-- the place of a mark
abbrev pub place_of : Marked → ℕ
place_of (In k) = k
place_of (Out k chain) = k

-- the places of all marks
abbrev pub places_of : List Marked → List ℕ
places_of marks = map place_of marks

-- the places that are marked In
abbrev pub places_in : List Marked → List ℕ
places_in [] = []
places_in (In k ∷ marks) = k ∷ places_in marks
places_in (Out k chain ∷ marks) = places_in marks

-- a mark for each Checkpoint of the trace
pub record IsCut (T : Run) (marks : List Marked) : Type 0 where
  -- by place, one for each Checkpoint
  pub ascending : IsStrictlySortedBy nat_cmp (places_of marks)
  pub all : (k : ℕ) → Contains (places_of marks) k ↔ ((p : Point) × ChecksAt T k p)
  -- the steps marked In are a consistent set, and every consistent set is part of it
  pub consistent : IsConsistent T (places_in marks)
  pub greatest : (steps : List ℕ) → IsConsistent T steps → (k : ℕ) → Contains steps k → Contains (places_in marks) k
  -- behind Out stands the first of the shortest chains from the step's point to a point that can't be kept
  pub out : (k : ℕ) (p : Point) (chain : List Chained) → Contains marks (Out k chain) → ChecksAt T k p → IsFirstTold T Everywhere (Is p) (λ q. ¬ KeptAble T q) chain
  -- and no consistent set holds the step
  pub exact : (k : ℕ) (chain : List Chained) → Contains marks (Out k chain) → (steps : List ℕ) → IsConsistent T steps → ¬ Contains steps k
  -- no point in the past of a step marked In is rolled back
  pub kept : (k : ℕ) (p q : Point) → Contains (places_in marks) k → ChecksAt T k p → Past T p q → ¬ RolledBack T q
  -- with each step marked In every earlier Checkpoint of its transactor is In
  pub earlier : (t j k : ℕ) → Closes T t j → Closes T t k → j < k → Contains (places_in marks) k → Contains (places_in marks) j
