use Rattle.tau_layout.proofs.LaneLemmas.{marks_lane}
use Rattle.tau_layout.proofs.lanes.mark_lane.Goals as goal

pub returns : goal.returns
returns c = marks_lane c.args.trace.now.run c.args.place c.lane_at-who.result c.args.marks.now.items c.mark.new.marks.items c.lane_at-who.ensures c.mark.ensures
