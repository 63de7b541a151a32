use Rattle.std.proofs.Common.{take}
use Rattle.tau_book.specs.Adopted.{AreMissing}
use Rattle.tau_book.proofs.adopting.missing_jobs.Given as goal

abbrev pub invariant-loop-turn : goal.invariant-loop-turn
invariant-loop-turn g l = AreMissing l.scripted.system.program l.scripted.system.run l.jobs (take l.turn-index l.turns) l.made.items
