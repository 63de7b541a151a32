use Rattle.std.proofs.Common.{◌≡◌, ℕ, ◌<◌, get_or}
use Rattle.tau_scene.specs.declared.looks.looks.Seen.{Seen}
use Rattle.tau_picture.proofs.chain.state_in.Given as goal

abbrev pub invariant-loop-seen : goal.invariant-loop-seen
invariant-loop-seen l = (k : ℕ) (d : Seen) → k < l.seen-index → ¬ ((get_or l.states k d).state.point ≡ l.point)
