use Rattle.std.proofs.Common.{subst}
use Rattle.tau_points.specs.Members.{Adds}
use Rattle.tau_view.proofs.Sets.{point_in-one}
use Rattle.tau_view.proofs.fate.least.single.Goals as goal

pub returns : goal.returns
returns c =
    point_in-one _ c.args.point (subst (λ old. Adds old c.insert.new.self c.args.point) c.new-set.ensures c.in_ok-insert.ensures.members)
