use Rattle.std.proofs.Common.{take}
use Rattle.tau_versions.specs.Roots.Adding.{AreFresh}
use Rattle.tau_versions.proofs.roots.taking.fresh.Given as goal

abbrev pub invariant-loop-number : goal.invariant-loop-number
invariant-loop-number l = AreFresh (take l.number l.roots) l.me l.taken l.fresh.items
