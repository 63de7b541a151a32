use Rattle.tau_verdicts.proofs.Spreads.{comes_met}
use Rattle.tau_verdicts.proofs.spreading.Spread.come_to.Goals as goal

pub returns : goal.returns
returns c = comes_met c.args.logs.now c.args.point c.args.self.now.doomed.items c.meet.new.self.doomed.items c.args.self.now.left.items c.meet.new.self.left.items c.in_ok-meet.ensures
