use Rattle.show_runs.specs.Seats.{IsAt}
use Rattle.show_runs.proofs.turns.take_turns.Given as goal

abbrev pub invariant-loop : goal.invariant-loop
invariant-loop g l = record { at : IsAt l.fn.table l.side.seat }
