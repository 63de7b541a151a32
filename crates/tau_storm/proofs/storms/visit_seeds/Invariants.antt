use Rattle.std.proofs.Common.{◌≡◌}
use Rattle.tau_faults.specs.Inner.Walking.{HasSeen}
use Rattle.tau_storm.specs.Seeds.{AreEndsOfSeeds}
use Rattle.tau_storm.proofs.storms.visit_seeds.Given as goal

abbrev pub invariant-loop-number : goal.invariant-loop-number
invariant-loop-number g l = (l.program ≡ l.fn.program) × HasSeen g.V.Visit.visits (AreEndsOfSeeds l.setting l.fn.program l.fn.seed l.number) l.fn.visitor l.visitor
