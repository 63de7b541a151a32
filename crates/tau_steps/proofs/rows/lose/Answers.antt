use Rattle.std.proofs.Common.{[], ◌∷◌, arith}
use Rattle.tau_steps.specs.Faults as role
use Rattle.tau_steps.proofs.TellsLemmas.{wrong_number}
use Rattle.tau_steps.proofs.rows.lose.Goals as goal
use Rattle.tau_steps.proofs.rows.lose.Goals.{in_default-via-then-items-lt1, in_default-via-else-items-lt1+else-items-lt2}

pub returns-in_default : goal.returns-in_default
returns-in_default c =
    wrong_number c.args.place.opening.now c.args.place.transactors c.args.place.messages (role.message ∷ []) c.args.items.now
    (λ e. elim c.in_default.branch [ in_default-via-then-items-lt1 w ↦ grind (arith, e) | in_default-via-else-items-lt1+else-items-lt2 w ↦ grind (arith, e) ])
