use Rattle.std.proofs.Common.{◌≡◌, ℕ, ◌<◌, List, Some, get_or, []}
use Rattle.tau_value.specs.Names.{IsName, place_of}
use Rattle.tau_trace.proofs.opening.are_names.Given as goal

abbrev pub invariant-loop-place : goal.invariant-loop-place
invariant-loop-place l = (k : ℕ) → k < l.place → IsName (get_or l.names k []) × (place_of l.names (get_or l.names k []) ≡ Some k)
