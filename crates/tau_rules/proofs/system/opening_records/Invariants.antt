use Rattle.std.proofs.Common.{take}
use Rattle.tau_rules.specs.Records.{HasStarts}
use Rattle.tau_rules.proofs.system.opening_records.Given as goal

abbrev pub invariant-loop-start : goal.invariant-loop-start
invariant-loop-start l = HasStarts (take l.start-index l.starts) l.records.items
