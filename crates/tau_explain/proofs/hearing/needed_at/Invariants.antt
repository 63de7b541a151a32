use Rattle.tau_explain.proofs.HearingLemmas.{Marked}
use Rattle.tau_explain.proofs.hearing.needed_at.Given as goal

abbrev pub invariant-loop-at : goal.invariant-loop-at
invariant-loop-at l = Marked l.trace.run l.place l.at l.marks.known.items l.marks.entered.items
