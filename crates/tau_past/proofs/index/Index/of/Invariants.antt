use Rattle.std.proofs.Common.{◌≡◌}
use Rattle.std.specs.HashMap.{get}
use Rattle.tau_trace.specs.Numbering as numbering
use Rattle.tau_past.specs.Tables.{Lists, TellsHistory, TellsTurn, TellsCarried, TellsMade, TellsEarlier, TellsLatest, TellsTaker, IsBirth, all_born, same_point}
use Rattle.tau_past.proofs.index.Index.of.Given as goal

abbrev pub invariant-loop-place : goal.invariant-loop-place
invariant-loop-place l = record {
  histories : Lists (all_born l.trace.run) (TellsHistory l.trace.run l.place) l.histories.items;
  turns : Lists (all_born l.trace.run) (TellsTurn l.trace.run l.place) l.turns.items;
  born : l.born ≡ numbering.born l.trace.run l.place;
  carried : Lists l.place (TellsCarried l.trace.run) l.carried.items;
  made : Lists l.place (TellsMade l.trace.run) l.made.items;
  latest : TellsLatest l.trace.run l.place (get same_point l.latest);
  earlier : Lists l.place (TellsEarlier l.trace.run) l.earlier.items;
  takers : Lists l.place (TellsTaker l.trace.run) l.takers.items;
  births : Lists (numbering.born l.trace.run l.place) (IsBirth l.trace.run) l.births.items;
}
