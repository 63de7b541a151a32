use Rattle.std.proofs.Common.{[], ◌∷◌, arith}
use Rattle.std.proofs.lemmas.Result.{err_from_is_err_and}
use Rattle.tau_steps.specs.Faults as role
use Rattle.tau_steps.proofs.RowLemmas.{tells_echo}
use Rattle.tau_steps.proofs.TellsLemmas.{wrong_number}
use Rattle.tau_steps.proofs.rows.echo.Goals as goal
use Rattle.tau_steps.proofs.rows.echo.Goals.{in_default-via-then-items-lt3, in_default-via-else-items-lt3+else-items-lt4}

pub returns-in_default : goal.returns-in_default
returns-in_default c =
    wrong_number c.args.place.opening.now c.args.place.transactors c.args.place.messages (role.transactor ∷ role.next c.args.place.messages ∷ role.message ∷ []) c.args.items.now
    (λ e. elim c.in_default.branch [ in_default-via-then-items-lt3 w ↦ grind (arith, e) | in_default-via-else-items-lt3+else-items-lt4 w ↦ grind (arith, e) ])

pub returns-in_err-who : goal.returns-in_err-who
returns-in_err-who c =
    let p = err_from_is_err_and c.from_residual.result c.from_residual.ensures.1 in
    let told = tells_echo c.args.place c.args.items.now c.who-item.result c.number-item.result c.message-item.result c.transactor.result c.next.result c.message.result c.both-made.result c.both.result (omega arith) c.who-item.is c.number-item.is c.message-item.is c.transactor.ensures (c.next.ensures c.args.place) c.message.ensures c.both-made.ensures c.both.ensures in
    rw (p.1, p.2) (told.err c.in_err-who.field-0.0 c.in_err-who.was)

pub returns : goal.returns
returns c =
    let told = tells_echo c.args.place c.args.items.now c.who-item.result c.number-item.result c.message-item.result c.transactor.result c.next.result c.message.result c.both-made.result c.both.result (omega arith) c.who-item.is c.number-item.is c.message-item.is c.transactor.ensures (c.next.ensures c.args.place) c.message.ensures c.both-made.ensures c.both.ensures in
    told.ok (c.in_ok-who.who, (c.in_ok-who.field-0-1-0, c.in_ok-who.message)) c.in_ok-who.was
