-- Only equal points, and only equal pairs of points, compare as equal.
use Rattle.std.proofs.lemmas.Map.Lookups.{CmpEqualImpliesEq, exact_unsigned, exact_pairs}
use Rattle.tau_points.specs.Order.{point_cmp, pair_cmp}

pub point_cmp-exact : CmpEqualImpliesEq point_cmp
point_cmp-exact p q e =
    let parts = exact_pairs _ _ exact_unsigned (exact_pairs _ _ exact_unsigned exact_unsigned) (p.who, (p.interval, p.incarnation)) (q.who, (q.interval, q.incarnation)) e in
    λ i. record { who = (parts i).0; interval = (parts i).1.0; incarnation = (parts i).1.1 }

pub pair_cmp-exact : CmpEqualImpliesEq pair_cmp
pair_cmp-exact = exact_pairs point_cmp point_cmp point_cmp-exact point_cmp-exact
