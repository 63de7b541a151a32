use Rattle.std.proofs.Common.{◌≡◌, ◌+◌, ◌*◌, List, All, length, take}
use Rattle.tau_tree.specs.declared.entries.Entry.{Entry}
use Rattle.tau_trace.specs.Run.{Run, len}
use Rattle.tau_revival.specs.Revival.{LeadsOn}
use Rattle.tau_faults.specs.Ends.{EndsBelow, EndsWith}
use Rattle.tau_faults.specs.Inner.Walking.{sum_of, IsFaultAt, HasSeen, first_steps}
use Rattle.tau_faults.proofs.walk.+visit.Given as goal

-- the steps so far are the first ones of the run, the cursor has come to their end, and the ends at the places before were shown
abbrev pub invariant-visit_further-loop-place : goal.invariant-visit_further-loop-place
invariant-visit_further-loop-place g l = record {
  program : l.program ≡ l.initial.program;
  so_far : l.so_far.run ≡ first_steps l.trace.run l.place;
  leads : LeadsOn l.program.script l.so_far.run l.cursor;
  ends : (faults : List Entry) → length faults ≡ l.fn.progress.placed → HasSeen g.V.Visit.visits (EndsBelow l.fn.storm.setting l.fn.storm.seed l.fn.progress.left l.fn.progress.from faults l.initial.program l.trace.run l.place) l.initial.visitor l.visitor;
}

-- those with the faults so far were shown
abbrev pub invariant-visit_each-loop-fault : goal.invariant-visit_each-loop-fault
invariant-visit_each-loop-fault g l = record {
  program : l.program ≡ l.initial.program;
  ends : (T : Run) (entries : List Entry) → length entries ≡ l.fn.progress.placed
      → All (IsFaultAt l.fn.storm.setting.every l.initial.program T l.fn.spot.place l.fn.spot.entry) l.faults
      → HasSeen g.V.Visit.visits (EndsWith l.fn.storm.setting l.fn.storm.seed l.fn.progress.left entries l.initial.program T l.fn.spot.place (take l.fault-index l.faults)) l.initial.visitor l.visitor;
}

abbrev pub decreases-visit_from : goal.decreases-visit_from
decreases-visit_from g l = 4 * sum_of l.progress.left + 3

abbrev pub decreases-visit_further : goal.decreases-visit_further
decreases-visit_further g l = 4 * sum_of l.progress.left + 2

abbrev pub decreases-visit_each : goal.decreases-visit_each
decreases-visit_each g l = 4 * sum_of l.progress.left + 1

abbrev pub decreases-visit_with : goal.decreases-visit_with
decreases-visit_with g l = 4 * sum_of l.progress.left
