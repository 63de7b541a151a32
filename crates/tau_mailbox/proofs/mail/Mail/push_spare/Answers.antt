use Rattle.std.proofs.Common.{arith}
use Rattle.tau_mailbox.specs.Letters.{is_for}
use Rattle.tau_mailbox.proofs.Leaving.{below-filtered}
use Rattle.tau_mailbox.proofs.Consistency.{consistent-arrived}
use Rattle.tau_mailbox.proofs.Rooms.{room-falls, room-has}
use Rattle.tau_mailbox.proofs.mail.Mail.push_spare.Goals as goal

pub push_spare-requires-clause-room : goal.push_spare-requires-clause-room
push_spare-requires-clause-room c = (room-has c.self.inside.parts.items c.args.letter.who c.self.inside.order.room (rw (← c.self.view_is) at c.requires.room)).0

pub push_at-requires-clause-room : goal.push_at-requires-clause-room
push_at-requires-clause-room c = (room-has c.self.inside.parts.items c.args.letter.who c.self.inside.order.room (rw (← c.self.view_is) at c.requires.room)).1

pub push_at-requires-clause-last : goal.push_at-requires-clause-last
push_at-requires-clause-last c = λ d.
    let has = room-has c.self.inside.parts.items c.args.letter.who c.self.inside.order.room (rw (← c.self.view_is) at c.requires.room) in
    rw (c.self.invariant.by_receiver c.args.letter.who d has.2)
    (below-filtered (is_for c.args.letter.who) c.args.letter.message c.self.inside.order.letters (rw (← c.self.view_is) at c.requires.last))

pub invariant_of-self : goal.invariant_of-self
invariant_of-self c =
    let has = room-has c.self.inside.parts.items c.args.letter.who c.self.inside.order.room (rw (← c.self.view_is) at c.requires.room) in
    rw c.push_spare.ensures.letters
    (consistent-arrived _ _ _ _ _ c.self.invariant has.2 (rw (← c.self.view_is) at c.requires.node) (rw (← c.self.view_is) at c.requires.last) c.push_at.ensures)

pub returns-clause-room : goal.returns-clause-room
returns-clause-room c = λ q.
    rw (← c.self.view_is)
    (room-falls _ _ _ _ c.self.inside.order.room c.push_spare.new.self.room 1 c.push_at.ensures (λ p r k. omega (arith, k.1)) (omega (arith, c.push_spare.ensures.room)) q)
