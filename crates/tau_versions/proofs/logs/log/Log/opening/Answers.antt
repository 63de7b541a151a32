use Rattle.std.proofs.Common.{refl}
use Rattle.tau_versions.proofs.Telling.{starts_tell}
use Rattle.tau_versions.proofs.logs.log.Log.opening.Goals as goal

pub returns-clause-tells : goal.returns-clause-tells
returns-clause-tells c = λ T u start. starts_tell T u _ _ c.in_ok-log.ensures.versions refl (record { interval_is = refl; incarnation_is = refl; stable_is = refl }) c.in_ok-log.ensures.closed start
