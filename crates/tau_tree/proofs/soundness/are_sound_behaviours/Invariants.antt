use Rattle.tau_tree.specs.Checks.{IsSoundBehaviour}
use Rattle.tau_tree.proofs.DistinctLemmas.{SoundSoFar}
use Rattle.tau_tree.proofs.soundness.are_sound_behaviours.Given as goal

abbrev pub invariant-loop-behaviour : goal.invariant-loop-behaviour
invariant-loop-behaviour l = SoundSoFar (IsSoundBehaviour l.counts.starts l.counts.behaviours) (λ x. x.name) l.behaviours l.behaviour-index l.names
