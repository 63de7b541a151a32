use Rattle.std.proofs.lemmas.Result.{on_ok_weaker}
use Rattle.tau_drawing.proofs.LineLemmas.{line_of_send, line_of_repeat, line_of_new, send_below, repeat_below, new_made}
use Rattle.tau_drawing.proofs.messages.messages.put_line_of.Goals as goal

pub put_sent-requires-clause-exists : goal.put_sent-requires-clause-exists
put_sent-requires-clause-exists c =
    send_below c.args.drawing.now.trace.now.run c.args.place c.args.made c.in-Send.who c.in-Send.to c.in-Send.value c.args.step.now c.in-Send.is c.requires.stands c.requires.made

pub put_sent-requires-in-Repeat-clause-exists : goal.put_sent-requires-in-Repeat-clause-exists
put_sent-requires-in-Repeat-clause-exists c =
    repeat_below c.args.drawing.now.trace.now.run c.args.place c.args.made c.in-Repeat.message c.args.step.now c.in-Repeat.is c.requires.stands c.requires.made

pub put_new-requires-clause-new : goal.put_new-requires-clause-new
put_new-requires-clause-new c =
    new_made c.args.drawing.now.trace.now.run c.args.place c.args.made c.in-New.who c.in-New.behaviour c.in-New.node c.in-New.state c.args.step.now c.in-New.is c.requires.stands c.requires.made

pub returns-in-Send : goal.returns-in-Send
returns-in-Send c =
    on_ok_weaker c.put_sent.result
    (line_of_send c.args.drawing.now.program.now c.args.drawing.now.trace.now.run c.args.drawing.now.layout.now c.args.place c.args.made c.in-Send.who c.in-Send.to c.in-Send.value c.args.step.now c.args.out.now.items c.put_sent.new.out.items c.in-Send.is c.requires.stands c.requires.made)
    c.put_sent.ensures

pub returns-in-Repeat : goal.returns-in-Repeat
returns-in-Repeat c =
    on_ok_weaker c.put_sent-in-Repeat.result
    (line_of_repeat c.args.drawing.now.program.now c.args.drawing.now.trace.now.run c.args.drawing.now.layout.now c.args.place c.args.made c.in-Repeat.message c.args.step.now c.args.out.now.items c.put_sent-in-Repeat.new.out.items c.in-Repeat.is c.requires.stands c.requires.made)
    c.put_sent-in-Repeat.ensures

pub returns-in-New : goal.returns-in-New
returns-in-New c =
    on_ok_weaker c.put_new.result
    (line_of_new c.args.drawing.now.program.now c.args.drawing.now.trace.now.run c.args.drawing.now.layout.now c.args.place c.in-New.who c.in-New.behaviour c.in-New.node c.in-New.state c.args.step.now c.args.out.now.items c.put_new.new.out.items c.in-New.is)
    c.put_new.ensures
