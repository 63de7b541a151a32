use Rattle.std.proofs.Common.{arith, sym}
use Rattle.tau_points.proofs.SortedLists.{known_more, known_all}
use Rattle.tau_points.proofs.sorted.count_missing.Goals as goal

pub scan-preserved-in-Equal : goal.scan-preserved-in-Equal
scan-preserved-in-Equal g c = record {
  within = omega arith;
  fewer = omega arith;
  none = λ e. known_more _ _ _ _ _ _ (record { first_in = c.scan-test.true; second_in = c.if-j-others.true; first_is = c.index-items-i.is; second_is = c.index-others-j.is })
      (g.met.T.Exact.exact _ _ (sym c.in-Equal.ensures)) (c.scan.invariant.none e);
}

pub returns : goal.returns
returns g c = known_all _ _ _ _ c.scan.invariant.within c.scan.invariant.none
