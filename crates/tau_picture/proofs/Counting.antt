-- Counts of marks.
use Rattle.std.proofs.Common.{◌≡◌, ◌+◌, List, [], ◌∷◌, ◌++◌, length, arith}
use Rattle.tau_cut.specs.declared.cut.Marked.{Marked}
use Rattle.tau_cut.specs.declared.cut.Marked.TheVariants.{In, Out}
use Rattle.tau_cut.specs.Cuts.{places_in}
use Rattle.tau_picture.specs.Inner.Counting.{one_in}

-- the marks that are In, with one more mark
pub in_more : (ms : List Marked) (m : Marked) → length (places_in (ms ++ m ∷ [])) ≡ length (places_in ms) + one_in m
in_more [] (In k) = omega arith
in_more [] (Out k chain) = omega arith
in_more (In k ∷ ms) m = omega (arith, in_more ms m)
in_more (Out k chain ∷ ms) m = in_more ms m
