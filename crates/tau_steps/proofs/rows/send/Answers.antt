use Rattle.std.proofs.Common.{[], ◌∷◌, arith}
use Rattle.std.proofs.lemmas.Result.{err_from_is_err_and}
use Rattle.tau_steps.specs.Faults as role
use Rattle.tau_steps.proofs.RowLemmas.{tells_send}
use Rattle.tau_steps.proofs.TellsLemmas.{wrong_number}
use Rattle.tau_steps.proofs.rows.send.Goals as goal
use Rattle.tau_steps.proofs.rows.send.Goals.{in_default-via-then-items-lt4, in_default-via-else-items-lt4+else-items-lt5}

pub returns-in_default : goal.returns-in_default
returns-in_default c = wrong_number c.args.place.opening.now c.args.place.transactors c.args.place.messages (role.transactor ∷ role.next c.args.place.messages ∷ role.transactor ∷ role.value ∷ []) c.args.items.now (λ e. elim c.in_default.branch [ in_default-via-then-items-lt4 w ↦ grind (arith, e) | in_default-via-else-items-lt4+else-items-lt5 w ↦ grind (arith, e) ])

pub returns-in_err-who : goal.returns-in_err-who
returns-in_err-who c =
    let p = err_from_is_err_and c.from_residual.result c.from_residual.ensures.1 in
    let told = tells_send c.args.place c.args.items.now c.who-item.result c.number-item.result c.to-item.result c.value-item.result c.transactor-2.result c.next.result c.transactor.result c.value.result c.both-content.result c.both-made.result c.both.result (omega arith) c.who-item.is c.number-item.is c.to-item.is c.value-item.is c.transactor-2.ensures (c.next.ensures c.args.place) c.transactor.ensures c.value.ensures c.both-content.ensures c.both-made.ensures c.both.ensures in
    rw (p.1, p.2) (told.err c.in_err-who.field-0.0 c.in_err-who.was)

pub returns : goal.returns
returns c =
    let told = tells_send c.args.place c.args.items.now c.who-item.result c.number-item.result c.to-item.result c.value-item.result c.transactor-2.result c.next.result c.transactor.result c.value.result c.both-content.result c.both-made.result c.both.result (omega arith) c.who-item.is c.number-item.is c.to-item.is c.value-item.is c.transactor-2.ensures (c.next.ensures c.args.place) c.transactor.ensures c.value.ensures c.both-content.ensures c.both-made.ensures c.both.ensures in
    told.ok (c.in_ok-who.who, (c.in_ok-who.field-0-1-0, (c.in_ok-who.to, c.in_ok-who.value))) c.in_ok-who.was
