-- Laws of histories, each the contract of a function of the crate (docs/rules.md, "Histories", "Fates").
use Rattle.std.specs.Prelude.{◌≡◌, ◌≢◌, ℕ, ◌⊎◌, ◌↔◌}
use Rattle.tau_history.specs.Timeline.{Timeline, Move, stabilize, close, fall, moved}
use Rattle.tau_history.specs.Order.{Precedes, AreComparable, later_of}
use Rattle.tau_history.specs.Parts.{PrecedesByParts}
use Rattle.tau_history.specs.Fates.{fate, HasFate, IsOwn}
use Rattle.tau_history.specs.declared.fate.Fate.{Fate}
use Rattle.tau_history.specs.declared.fate.Fate.TheVariants.{Ahead, Stable, Closed, Fallen}

-- every history precedes itself
abbrev pub OrderIsReflexive : Type 0
OrderIsReflexive = (a : Timeline) → Precedes a a

-- what follows a later one follows the earlier one
abbrev pub OrderIsTransitive : Type 0
OrderIsTransitive = (a b c : Timeline) → Precedes a b → Precedes b c → Precedes a c

-- two histories that precede one another are equal
abbrev pub OrderIsAntisymmetric : Type 0
OrderIsAntisymmetric = (a b : Timeline) → Precedes a b → Precedes b a → a ≡ b

-- of two histories that precede a third, one precedes the other
abbrev pub PredecessorsAreComparable : Type 0
PredecessorsAreComparable = (a b c : Timeline) → Precedes a c → Precedes b c → AreComparable a b

-- of two histories of which one precedes the other, both precede the later one
abbrev pub LaterIsPreceded : Type 0
LaterIsPreceded = (a b : Timeline) → AreComparable a b → Precedes a (later_of a b) × Precedes b (later_of a b)

-- the order in closed form, by interval, incarnation and mode
abbrev pub PrecedenceIsByParts : Type 0
PrecedenceIsByParts = (a b : Timeline) → Precedes a b ↔ PrecedesByParts a b

-- each point has exactly the fate whose row of the table it meets
abbrev pub FatesAreTheTable : Type 0
FatesAreTheTable = (h : Timeline) (i m : ℕ) (f : Fate) → (fate h i m ≡ f) ↔ HasFate h i m f

-- under a later history a point that is not Ahead stays so
abbrev pub ReachedStaysReached : Type 0
ReachedStaysReached = (a b : Timeline) (i m : ℕ) → Precedes a b → fate a i m ≢ Ahead → fate b i m ≢ Ahead

-- and a Closed one stays Closed
abbrev pub ClosedStaysClosed : Type 0
ClosedStaysClosed = (a b : Timeline) (i m : ℕ) → Precedes a b → fate a i m ≡ Closed → fate b i m ≡ Closed

-- and a Fallen one stays Fallen
abbrev pub FallenStaysFallen : Type 0
FallenStaysFallen = (a b : Timeline) (i m : ℕ) → Precedes a b → fate a i m ≡ Fallen → fate b i m ≡ Fallen

-- and a Stable one is Stable, Closed or Fallen
abbrev pub StableClosesOrFalls : Type 0
StableClosesOrFalls = (a b : Timeline) (i m : ℕ) → Precedes a b → fate a i m ≡ Stable → ((fate b i m ≡ Stable) ⊎ (fate b i m ≡ Closed)) ⊎ (fate b i m ≡ Fallen)

-- after a move a point is Fallen exactly where it was, or where the move is a fall made at it
abbrev pub FallsMakeFallen : Type 0
FallsMakeFallen = (m : Move) (h : Timeline) (i n : ℕ) → (fate (moved m h) i n ≡ Fallen) ↔ ((fate h i n ≡ Fallen) ⊎ ((m ≡ fall) × IsOwn h i n))

-- and Closed exactly where it was, or where the move is a close made at it
abbrev pub ClosesMakeClosed : Type 0
ClosesMakeClosed = (m : Move) (h : Timeline) (i n : ℕ) → (fate (moved m h) i n ≡ Closed) ↔ ((fate h i n ≡ Closed) ⊎ ((m ≡ close) × IsOwn h i n))

-- and Stable only where it was, or where the move is a stabilize made at it
abbrev pub StabilizesMakeStable : Type 0
StabilizesMakeStable = (m : Move) (h : Timeline) (i n : ℕ) → fate (moved m h) i n ≡ Stable → (fate h i n ≡ Stable) ⊎ ((m ≡ stabilize) × IsOwn h i n)
