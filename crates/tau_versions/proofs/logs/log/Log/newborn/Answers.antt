use Rattle.std.proofs.Common.{refl}
use Rattle.tau_versions.proofs.Telling.{newborns_tell}
use Rattle.tau_versions.proofs.logs.log.Log.newborn.Goals as goal

pub returns-clause-tells : goal.returns-clause-tells
returns-clause-tells c = λ T u n late quiet. newborns_tell T u n _ _ c.in_ok-log.ensures.versions refl (record { interval_is = refl; incarnation_is = refl; stable_is = refl }) c.in_ok-log.ensures.closed late quiet
