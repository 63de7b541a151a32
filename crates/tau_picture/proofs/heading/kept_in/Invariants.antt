use Rattle.std.proofs.Common.{◌≡◌, ◌≤◌, length, take}
use Rattle.tau_cut.specs.Cuts.{places_in}
use Rattle.tau_picture.proofs.heading.kept_in.Given as goal

abbrev pub invariant-loop-marked : goal.invariant-loop-marked
invariant-loop-marked l = (l.kept ≡ length (places_in (take l.marked-index l.marked-items))) × (l.kept ≤ l.marked-index)
