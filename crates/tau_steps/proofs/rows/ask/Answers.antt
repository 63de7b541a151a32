use Rattle.std.proofs.Common.{[], ◌∷◌, arith}
use Rattle.std.proofs.lemmas.Result.{err_from_is_err_and}
use Rattle.tau_steps.specs.Faults as role
use Rattle.tau_steps.proofs.RowLemmas.{tells_ask}
use Rattle.tau_steps.proofs.TellsLemmas.{wrong_number}
use Rattle.tau_steps.proofs.rows.ask.Goals as goal
use Rattle.tau_steps.proofs.rows.ask.Goals.{in_default-via-then-items-lt2, in_default-via-else-items-lt2+else-items-lt3}

pub returns-in_default : goal.returns-in_default
returns-in_default c =
    wrong_number c.args.place.opening.now c.args.place.transactors c.args.place.messages (role.transactor ∷ role.truth ∷ []) c.args.items.now
    (λ e. elim c.in_default.branch [ in_default-via-then-items-lt2 w ↦ grind (arith, e) | in_default-via-else-items-lt2+else-items-lt3 w ↦ grind (arith, e) ])

pub returns-in_err-who : goal.returns-in_err-who
returns-in_err-who c =
    let p = err_from_is_err_and c.from_residual.result c.from_residual.ensures.1 in
    rw (p.1, p.2) ((tells_ask c.args.place c.args.items.now c.who-item.result c.answer-item.result c.transactor.result c.truth.result c.both.result (omega arith) c.who-item.is c.answer-item.is c.transactor.ensures (c.truth.ensures c.args.place) c.both.ensures).err c.in_err-who.field-0.0 c.in_err-who.was)

pub returns : goal.returns
returns c = (tells_ask c.args.place c.args.items.now c.who-item.result c.answer-item.result c.transactor.result c.truth.result c.both.result (omega arith) c.who-item.is c.answer-item.is c.transactor.ensures (c.truth.ensures c.args.place) c.both.ensures).ok (c.in_ok-who.who, c.in_ok-who.answer) c.in_ok-who.was
