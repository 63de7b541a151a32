use Rattle.tau_tree.specs.Checks.{IsSoundStart}
use Rattle.tau_tree.proofs.DistinctLemmas.{SoundSoFar}
use Rattle.tau_tree.proofs.soundness.are_sound_starts.Given as goal

abbrev pub invariant-loop-start : goal.invariant-loop-start
invariant-loop-start l = SoundSoFar (IsSoundStart l.counts.nodes l.counts.behaviours l.counts.starts) (λ x. x.name) l.starts l.start-index l.names
