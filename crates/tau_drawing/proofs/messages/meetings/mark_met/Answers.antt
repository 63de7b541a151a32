use Rattle.tau_drawing.proofs.MeetingLemmas.{marks_met}
use Rattle.tau_drawing.proofs.messages.meetings.mark_met.Goals as goal

pub returns : goal.returns
returns c = marks_met c.args.trace.now.run c.args.place c.met_at-message.result c.args.marks.now.items c.mark.new.marks.items c.met_at-message.ensures c.mark.ensures
