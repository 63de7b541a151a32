-- What a type of view takes away (docs/rules.md, "Views").
use Rattle.std.specs.Prelude.{◌≡◌, ℕ, Bool, true, false, ◌⊎◌, if◌then◌else◌, IsTrue, Option, Some, None}
use Rattle.tau_history.specs.declared.fate.Fate.{Fate}
use Rattle.tau_history.specs.declared.fate.Fate.TheVariants.{Closed, Fallen}
use Rattle.tau_points.specs.declared.point.Point.{Point}
use Rattle.tau_view.specs.Held.{Held, Histories, Edges, Points, fate_in, AllPrecede}

-- which edges are taken away under these histories
abbrev pub EdgeTest : Type 0
EdgeTest = Histories → Point → Point → Bool

-- which roots are
abbrev pub RootTest : Type 0
RootTest = Histories → Point → Bool

-- what is dropped is not there
abbrev pub unless : Bool → Bool → Bool
unless dropped there = if dropped then false else there

-- the edges that are not dropped
abbrev pub edges_kept : EdgeTest → Histories → Edges → Edges
edges_kept drops_edge hs edge p q = unless (drops_edge hs p q) (edge p q)

-- the roots that are not dropped
abbrev pub roots_kept : RootTest → Histories → Points → Points
roots_kept drops_root hs root q = unless (drops_root hs q) (root q)

-- without the edges and roots that the tests name; the histories stay
abbrev pub trim : EdgeTest → RootTest → Held → Held
trim drops_edge drops_root v =
    record v { edge = edges_kept drops_edge v.history v.edge; root = roots_kept drops_root v.history v.root }

-- an edge that is dropped leads from a Closed or Fallen point or to a Closed one
abbrev pub DropsSettledEdges : EdgeTest → Type 0
DropsSettledEdges drops_edge =
    (hs : Histories) (p q : Point) → IsTrue (drops_edge hs p q) → ((fate_in hs p ≡ Closed) ⊎ (fate_in hs p ≡ Fallen)) ⊎ (fate_in hs q ≡ Closed)

-- a root that is dropped is Closed, and each edge to it is dropped
pub record DropsWithEdges (drops_edge : EdgeTest) (hs : Histories) (q : Point) : Type 0 where
  pub closed : fate_in hs q ≡ Closed
  pub edges : (p : Point) → IsTrue (drops_edge hs p q)

abbrev pub DropsClosedRoots : EdgeTest → RootTest → Type 0
DropsClosedRoots drops_edge drops_root = (hs : Histories) (q : Point) → IsTrue (drops_root hs q) → DropsWithEdges drops_edge hs q

-- what is dropped is dropped under later histories too
pub record DropsForGood (drops_edge : EdgeTest) (drops_root : RootTest) : Type 0 where
  pub edge : (hs ks : Histories) (p q : Point) → AllPrecede hs ks → IsTrue (drops_edge hs p q) → IsTrue (drops_edge ks p q)
  pub root : (hs ks : Histories) (q : Point) → AllPrecede hs ks → IsTrue (drops_root hs q) → IsTrue (drops_root ks q)
