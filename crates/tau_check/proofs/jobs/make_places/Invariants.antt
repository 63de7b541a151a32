use Rattle.std.proofs.Common.{◌≡◌, ◌-◌, ℕ, Option, Some, length}
use Rattle.std.specs.Prelude.{slice_get}
use Rattle.tau_eval.specs.Turn as turns
use Rattle.tau_check.proofs.jobs.make_places.Given as goal

abbrev pub invariant-places : goal.invariant-places
invariant-places l = (t : ℕ) (o : Option turns.TurnSoFar) → slice_get l.initial.jobs.items t ≡ Some o → slice_get l.jobs.items t ≡ Some o

abbrev pub decreases-places : goal.decreases-places
decreases-places l = l.count - length l.jobs.items
