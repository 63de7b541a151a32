use Rattle.std.proofs.Common.{◌∙◌, sym}
use Rattle.tau_layout.specs.Inner.Marking.{away}
use Rattle.tau_layout.proofs.Homes.{home_told, home_not_told, adds_there}
use Rattle.tau_layout.proofs.lanes.add_lane.Goals as goal

pub returns-in_ok-push : goal.returns-in_ok-push
returns-in_ok-push c =
    adds_there c.args.trace.now.run c.args.node c.args.who c.args.lanes.now.items c.push.new.self.items
    (home_told c.args.trace.now.run c.args.who c.args.node c.home.result c.home.ensures.home (sym c.eq.ensures ∙ c.if-eq.true))
    c.in_ok-push.ensures.items

pub returns-else-eq : goal.returns-else-eq
returns-else-eq c =
    away (home_not_told c.args.trace.now.run c.args.who c.args.node c.home.result c.requires c.home.ensures.exists c.home.ensures.home (sym c.eq.ensures ∙ c.if-eq.false))
