use Rattle.std.proofs.Common.{◌≡◌, map, take}
use Rattle.tau_script.proofs.openings.targets.Given as goal

abbrev pub invariant-loop-post : goal.invariant-loop-post
invariant-loop-post l = l.targets ≡ map (λ x. x.to) (take l.post-index l.posts)
