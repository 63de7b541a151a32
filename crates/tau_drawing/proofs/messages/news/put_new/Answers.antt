use Rattle.tau_drawing.proofs.LineLemmas.{new_written, new_none}
use Rattle.tau_drawing.proofs.messages.news.put_new.Goals as goal

pub returns-in_default : goal.returns-in_default
returns-in_default c = new_none c.args.drawing.now.trace.now.run c.args.drawing.now.layout.now c.args.birth.place c.args.birth.who c.args.birth.born c.args.out.now.items c.requires.new c.in_default.ensures.x

pub returns : goal.returns
returns c =
    new_written c.args.drawing.now.trace.now.run c.args.drawing.now.layout.now c.args.birth.place c.args.birth.who c.args.birth.born c.in-Some.x c.spot_at-at.result c.args.out.now.items c.put_new_line.new.out.items c.requires.new c.in-Some.ensures.x c.spot_at-at.ensures.spot c.in_ok-put_new_line.ensures
