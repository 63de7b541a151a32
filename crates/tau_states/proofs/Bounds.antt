-- States and saved states are in bounds, where the opening states are.
use Rattle.std.proofs.Common.{ℕ, List, subst, All}
use Rattle.std.proofs.lemmas.Option.{slice_get_within, get_or_from_slice_get}
use Rattle.tau_value.specs.declared.shared.Value.{Value}
use Rattle.tau_value.specs.Value.{val_of}
use Rattle.tau_value.specs.Sizes.{IsInBounds}
use Rattle.tau_points.specs.declared.point.Point.{Point}
use Rattle.tau_trace.specs.declared.step.Step.TheVariants.{Set, New}
use Rattle.tau_trace.specs.Run.{Run}
use Rattle.tau_trace.specs.Points.{point_at}
use Rattle.tau_trace.specs.Known.{WellFormed}
use Rattle.tau_past.specs.States.{StateAt, SavedWith, by_set, by_new, by_save, at_opening, at_checkpoint}
use Rattle.tau_states.specs.Laws.{AreInBounds}

abbrev IsBounded : Value → Type 0
IsBounded v = IsInBounds (val_of v)

module _ (T : Run) (opening : List Value) (w : WellFormed T) (bounded : All (λ v. IsInBounds (val_of v)) opening) where
  mutual
    pub state_bounded : (q : Point) (k : ℕ) (v : Value) → StateAt T opening q k v → IsInBounds (val_of v)
    state_bounded q k v (by_set {j = j} e at b none) = (w.known j (Set q.who v) e).1.in_bounds
    state_bounded q k v (by_new {j = j} {by = by} birth is first none) = subst IsBounded is ((w.known j (New by birth.behaviour birth.node birth.state) birth.stands).3.in_bounds)
    state_bounded q k v (by_save {i = i} is saved none) = saved_bounded q.who i v saved

    pub saved_bounded : (t i : ℕ) (v : Value) → SavedWith T opening t i v → IsInBounds (val_of v)
    saved_bounded t i v (at_opening l z e) = subst IsBounded (get_or_from_slice_get opening t v v e) (bounded t v (slice_get_within opening t v e))
    saved_bounded t i v (at_checkpoint {j = j} c is s) = state_bounded (point_at T t j) j v s

pub in_bounds : (T : Run) (opening : List Value) → WellFormed T → All (λ v. IsInBounds (val_of v)) opening → AreInBounds T opening
in_bounds T opening w bounded = record {
  states = state_bounded T opening w bounded;
  saved = saved_bounded T opening w bounded;
}
