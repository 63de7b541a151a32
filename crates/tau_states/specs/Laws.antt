-- Laws of states, each the contract of a function of the crate.
use Rattle.std.specs.Prelude.{◌≡◌, ℕ, List, All}
use Rattle.tau_points.specs.declared.point.Point.{Point}
use Rattle.tau_value.specs.declared.shared.Value.{Value}
use Rattle.tau_value.specs.Value.{val_of}
use Rattle.tau_value.specs.Sizes.{IsInBounds}
use Rattle.tau_trace.specs.Run.{Run}
use Rattle.tau_trace.specs.Known.{WellFormed}
use Rattle.tau_past.specs.States.{StateAt, SavedWith}

-- a transactor has one state at a point at most, by the steps before a place
abbrev pub StatesAreUnique : Type 0
StatesAreUnique = (T : Run) (opening : List Value) (q : Point) (k : ℕ) (v w : Value) → StateAt T opening q k v → StateAt T opening q k w → v ≡ w

-- and it saved one value at most with an interval
abbrev pub SavedStatesAreUnique : Type 0
SavedStatesAreUnique = (T : Run) (opening : List Value) (t i : ℕ) (v w : Value) → SavedWith T opening t i v → SavedWith T opening t i w → v ≡ w

-- every state and every saved state is in bounds
pub record AreInBounds (T : Run) (opening : List Value) : Type 0 where
  pub states : (q : Point) (k : ℕ) (v : Value) → StateAt T opening q k v → IsInBounds (val_of v)
  pub saved : (t i : ℕ) (v : Value) → SavedWith T opening t i v → IsInBounds (val_of v)

-- states and saved states are in bounds, where the opening states are
abbrev pub StatesAreInBounds : Type 0
StatesAreInBounds = (T : Run) (opening : List Value) → WellFormed T → All (λ v. IsInBounds (val_of v)) opening → AreInBounds T opening
