use Rattle.show_runs.specs.Seats.{IsAt}
use Rattle.show_runs.proofs.deeds.do_all.Given as goal

abbrev pub invariant-loop-word : goal.invariant-loop-word
invariant-loop-word g l = record {
  first : IsAt l.fn.table l.first.seat;
  second : IsAt l.fn.table l.second.seat;
}
