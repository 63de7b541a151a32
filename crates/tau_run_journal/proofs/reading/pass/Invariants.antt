-- What the records so far stand for.
use Rattle.std.proofs.Common.{◌≡◌, ◌≤◌, take, None}
use Rattle.tau_revival.specs.Revival.{LeadsOn}
use Rattle.tau_run_journal.specs.Standing.{StandsFor}
use Rattle.tau_run_journal.proofs.reading.pass.Given as goal

abbrev pub invariant-loop-place : goal.invariant-loop-place
invariant-loop-place l = record {
  behind : 1 ≤ l.place;
  within : l.place ≤ l.end;
  stand : StandsFor (take l.place l.records) l.read.program l.read.trace.run;
  leads : LeadsOn l.read.program.script l.read.trace.run l.read.cursor;
  fault : l.read.fault ≡ None;
}
