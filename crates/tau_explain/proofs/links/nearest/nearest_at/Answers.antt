use Rattle.std.specs.HashMap.{get}
use Rattle.tau_past.specs.Tables.{same_point}
use Rattle.tau_explain.proofs.NearLemmas.{nearest_told}
use Rattle.tau_explain.proofs.links.nearest.nearest_at.Goals as goal

pub returns : goal.returns
returns c = nearest_told c.args.index.now (get same_point c.args.far.now) c.args.place c.carried_at-carrying.result _ _ _ c.carried_at-carrying.ensures c.with_distance.ensures c.nearest_from.ensures c.nearer.ensures.either c.nearer.ensures.first c.nearer.ensures.second
