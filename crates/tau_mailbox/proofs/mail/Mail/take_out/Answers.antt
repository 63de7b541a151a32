use Rattle.std.proofs.Common.{sym, ◌∙◌, arith}
use Rattle.tau_mailbox.proofs.Leaving.{leaves-found}
use Rattle.tau_mailbox.proofs.Consistency.{consistent-left, home-of}
use Rattle.tau_mailbox.proofs.Rooms.{room-falls}
use Rattle.tau_mailbox.proofs.mail.Mail.take_out.Goals as goal

pub take_at-requires : goal.take_at-requires
take_at-requires c =
    let leaves = leaves-found c.args.message c.in_ok-letter.letter c.self.inside.order.letters c.take_out.new.self.letters c.self.invariant.ascending (sym c.take_out.ensures.found ∙ c.in_ok-letter.was) c.take_out.ensures.rest in
    omega (arith, home-of _ _ _ _ _ c.self.invariant leaves, c.self.inside.parts.ok.0)

pub invariant_of-self : goal.invariant_of-self
invariant_of-self c = rw c.in_err-letter.ensures.none c.self.invariant

pub invariant_of-self-2 : goal.invariant_of-self-2
invariant_of-self-2 c =
    let leaves = leaves-found c.args.message c.in_ok-letter.letter c.self.inside.order.letters c.take_out.new.self.letters c.self.invariant.ascending (sym c.take_out.ensures.found ∙ c.in_ok-letter.was) c.take_out.ensures.rest in
    consistent-left _ _ _ _ _ _ c.self.invariant (home-of _ _ _ _ _ c.self.invariant leaves) leaves c.take_at.ensures

pub returns-clause-room : goal.returns-clause-room
returns-clause-room c = λ q.
    rw (← c.self.view_is)
    (omega (arith, room-falls _ _ _ _ c.self.inside.order.room c.take_out.new.self.room 0 c.take_at.ensures (λ p r k. omega (arith, k.1)) (omega (arith, c.take_out.ensures.room)) q))
