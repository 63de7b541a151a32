use Rattle.std.specs.Prelude.{IfSome}
use Rattle.tau_journal.specs.Records.{IsAtRest}
use Rattle.tau_journal.specs.Gates.{gate_of}
use Rattle.show_runs.proofs.playing.play.Given as goal

abbrev pub invariant-loop-line : goal.invariant-loop-line
invariant-loop-line g l = IfSome l.journal (λ j. IsAtRest (g.D.Disk.bytes l.disk) (g.D.Disk.images l.disk) (gate_of j))
