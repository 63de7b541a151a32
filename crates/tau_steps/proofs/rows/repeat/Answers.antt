use Rattle.std.proofs.Common.{[], ◌∷◌, arith}
use Rattle.std.proofs.lemmas.Result.{err_from_is_err_and}
use Rattle.tau_steps.specs.Faults as role
use Rattle.tau_steps.proofs.RowLemmas.{tells_repeat}
use Rattle.tau_steps.proofs.TellsLemmas.{wrong_number}
use Rattle.tau_steps.proofs.rows.repeat.Goals as goal
use Rattle.tau_steps.proofs.rows.repeat.Goals.{in_default-via-then-items-lt2, in_default-via-else-items-lt2+else-items-lt3}

pub returns-in_default : goal.returns-in_default
returns-in_default c =
    wrong_number c.args.place.opening.now c.args.place.transactors c.args.place.messages (role.next c.args.place.messages ∷ role.message ∷ []) c.args.items.now
    (λ e. elim c.in_default.branch [ in_default-via-then-items-lt2 w ↦ grind (arith, e) | in_default-via-else-items-lt2+else-items-lt3 w ↦ grind (arith, e) ])

pub returns-in_err-told : goal.returns-in_err-told
returns-in_err-told c =
    let p = err_from_is_err_and c.from_residual.result c.from_residual.ensures.1 in
    let told = tells_repeat c.args.place c.args.items.now c.number-item.result c.message-item.result c.next.result c.message.result c.both.result (omega arith) c.number-item.is c.message-item.is (c.next.ensures c.args.place) c.message.ensures c.both.ensures in
    rw (p.1, p.2) (told.err c.in_err-told.field-0.0 c.in_err-told.was)

pub returns : goal.returns
returns c =
    let told = tells_repeat c.args.place c.args.items.now c.number-item.result c.message-item.result c.next.result c.message.result c.both.result (omega arith) c.number-item.is c.message-item.is (c.next.ensures c.args.place) c.message.ensures c.both.ensures in
    told.ok c.in_ok-told.told c.in_ok-told.was
