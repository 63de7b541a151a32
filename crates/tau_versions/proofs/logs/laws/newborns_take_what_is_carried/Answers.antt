use Rattle.tau_versions.proofs.Newborns.{newborns_take_what_is_carried}
use Rattle.tau_versions.proofs.logs.laws.newborns_take_what_is_carried.Goals as goal

pub returns : goal.returns
returns c = newborns_take_what_is_carried
