use Rattle.tau_trace.specs.Run.{len}
use Rattle.tau_heard.proofs.Rooms.{hears_same, next_of}
use Rattle.tau_heard.proofs.hearing.Hearing.prepare_change.Goals as goal

pub returns-in_err-make_room-clause-kept : goal.returns-in_err-make_room-clause-kept
returns-in_err-make_room-clause-kept c = hears_same c.args.trace.now.run (len c.args.trace.now.run) c.args.self.now c.make_room.new.self c.make_room.ensures.kept c.requires.knows

pub change_of-requires : goal.change_of-requires
change_of-requires c = record { next = next_of c.args.self.now c.make_room.new.self c.args.trace.now.run c.args.step.now c.requires.knows c.len-steps.ensures.well_formed c.requires.follows c.requires.ready c.make_room.ensures.kept c.in_ok-make_room.ensures.ok }
