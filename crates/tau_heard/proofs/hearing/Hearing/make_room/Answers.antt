use Rattle.std.proofs.Common.{sym, ap, length, arith}
use Rattle.tau_heard.proofs.Rooms.{room_next, equal_kept, kept_same}
use Rattle.tau_heard.proofs.hearing.Hearing.make_room.Goals as goal

pub returns-in_ok-make_actor_room-in-Some-clause-ok : goal.returns-in_ok-make_actor_room-in-Some-clause-ok
returns-in_ok-make_actor_room-in-Some-clause-ok c =
    room_next c.make_actor_room.new.self c.args.step.now c.in-Some.who c.is_set.result c.heard_by.result (c.make_actor_room.ensures.lists c.in_ok-make_list_room.ensures.ok)
    (omega (arith, (c.requires.exists c.in-Some.who (sym c.in-Some.ensures)).0, c.make_actor_room.ensures.kept.logs.count, ap length c.make_list_room.ensures.logs)) (sym c.in-Some.ensures) c.is_set.ensures c.heard_by.ensures c.in_ok-make_actor_room-in-Some.ensures.ok

pub returns-in-None-clause-kept : goal.returns-in-None-clause-kept
returns-in-None-clause-kept c = equal_kept c.args.self.now c.make_list_room.new.self c.make_list_room.new.self c.make_list_room.ensures.logs c.make_list_room.ensures.own c.make_list_room.ensures.letters c.make_list_room.ensures.falls (kept_same c.make_list_room.new.self)
