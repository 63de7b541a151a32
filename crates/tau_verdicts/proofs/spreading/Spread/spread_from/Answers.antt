use Rattle.std.proofs.Common.{rules}
use Rattle.std.proofs.lemmas.List.{nil_from_length}
use Rattle.tau_verdicts.specs.Doomed.{takers_of}
use Rattle.tau_verdicts.proofs.Spreads.{spreads_start, spreads_on, spreads_end}
use Rattle.tau_verdicts.proofs.spreading.Spread.spread_from.Goals as goal

pub walk-init : goal.walk-init
walk-init c =
    spreads_start c.args.logs.now (takers_of c.args.takers.now) c.args.who c.args.self.now.doomed.items c.meet.new.self.doomed.items c.clear.new.self.items c.meet.new.self.left.items c.clear.ensures.items c.in_ok-meet.ensures

pub walk-preserved : goal.walk-preserved
walk-preserved c =
    spreads_on c.args.logs.now (takers_of c.args.takers.now) c.args.who c.args.self.now.doomed.items c.walk.self.doomed.items c.come_to_all.new.self.doomed.items c.walk.self.left.items c.pop.new.self.items c.come_to_all.new.self.left.items c.in-Some.next c.in-Some.ensures.items c.walk.invariant
    c.takers_at.result.now c.takers_at.ensures c.in_ok-come_to_all.ensures

pub returns : goal.returns
returns c =
    spreads_end c.args.logs.now (takers_of c.args.takers.now) c.args.who c.args.self.now.doomed.items c.walk.self.doomed.items c.walk.self.left.items (nil_from_length c.walk.self.left.items (search (rules, c.in_default.ensures))) c.walk.invariant
