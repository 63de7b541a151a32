use Rattle.std.proofs.Common.{Result, Ok, Err, arith}
use Rattle.std.specs.Result.{OnOk}
use Rattle.tau_mailbox.proofs.Consistency.{consistent-widened}
use Rattle.tau_mailbox.proofs.Rooms.{room-same, room-widened, room-from}
use Rattle.tau_mailbox.proofs.mail.Mail.reserve.Goals as goal

-- what follows from two facts on success
both : {T E P Q R : Type 0} (r : Result T E) → (P → Q → R) → OnOk r P → OnOk r Q → OnOk r R
both (Ok x) f p q = f p q
both (Err e) f p q = tt

pub returns-in_err-reserve-clause-room : goal.returns-in_err-reserve-clause-room
returns-in_err-reserve-clause-room c = λ q.
    rw (← c.self.view_is) (omega (arith, room-same c.self.inside.parts.items c.self.inside.order.room c.reserve.new.self.room 0 (omega (arith, c.reserve.ensures.room)) q))

pub invariant_of-self-2 : goal.invariant_of-self-2
invariant_of-self-2 c = rw c.reserve.ensures.letters (consistent-widened _ _ _ _ c.self.invariant c.reserve_at.ensures.kept)

pub returns-clause-ok : goal.returns-clause-ok
returns-clause-ok c =
    both c.reserve_at.result (λ lt has. room-from c.reserve_at.new.parts.items c.args.who c.reserve.new.self.room (omega (arith, lt, c.reserve_at.new.parts.ok.0)) (omega (arith, c.in_ok-reserve.ensures.ok)) has) c.reserve_at.ensures.len c.reserve_at.ensures.ok

pub returns-clause-room : goal.returns-clause-room
returns-clause-room c = λ q.
    rw (← c.self.view_is) (room-widened c.self.inside.parts.items c.reserve_at.new.parts.items c.self.inside.order.room c.reserve.new.self.room c.reserve_at.ensures.kept c.reserve.ensures.room q)
