use Rattle.std.proofs.lemmas.Slice.Eq.{slice_eq-Decides}
use Rattle.tau_points.proofs.PointOrder.{pair_eq-Decides, Decides-seen}
use Rattle.tau_points.proofs.relation.Relation.same.Goals as goal

pub returns : goal.returns
returns c = Decides-seen _ _ _ _ _ c.self.view_is c.other.view_is (slice_eq-Decides pair_eq-Decides _ _ _ c.eq.ensures)
