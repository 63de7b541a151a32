use Rattle.tau_storm.specs.Tables.{IsTable}
use Rattle.tau_storm.specs.Inner.Telling.{TellsEnds}
use Rattle.tau_storm.proofs.DealLemmas.{IsDealt}
use Rattle.tau_storm.proofs.threads.storm_by_threads.Given as goal

abbrev pub invariant-loop-part : goal.invariant-loop-part
invariant-loop-part g l = IsDealt IsTable TellsEnds l.setting l.program (record { seed = l.seed; seeds = l.seeds; workers = l.workers }) l.part-iterator.rest.items l.table
