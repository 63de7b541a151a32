-- A view that takes nothing away.
use Rattle.std.specs.Prelude.{true, false, IsTrue}
use Rattle.std.proofs.Common.{◌≡◌}
use Rattle.tau_view.specs.Trim.{EdgeTest, RootTest, DropsSettledEdges, DropsClosedRoots, DropsForGood}

abbrev pub drops_no_edge : EdgeTest
drops_no_edge hs p q = false

abbrev pub drops_no_root : RootTest
drops_no_root hs q = false

pub settled_edges : DropsSettledEdges drops_no_edge
settled_edges hs p q d = cc

pub closed_roots : DropsClosedRoots drops_no_edge drops_no_root
closed_roots hs q d = absurd (cc)

pub for_good : DropsForGood drops_no_edge drops_no_root
for_good = record { edge = λ hs ks p q a d. d; root = λ hs ks q a d. d }
