use Rattle.std.proofs.Common.{sym, subst}
use Rattle.tau_svg.specs.declared.shapes.window.Window.{Window}
use Rattle.tau_svg.specs.Shapes.Windows.{IsDrawn}
use Rattle.tau_layout.proofs.Ranks.{has_one_rank}
use Rattle.tau_layout.proofs.Origins.{sender_left, sides}
use Rattle.tau_layout.proofs.paths.senders.comes_from_right.Goals as goal

pub stands_right-requires : goal.stands_right-requires
stands_right-requires c = record { one = has_one_rank c.args.trace.now.run c.requires.well_formed.opening c.args.layout.now c.requires.plan.lanes_are }

pub returns-then-has : goal.returns-then-has
returns-then-has c =
    let drawn = subst (λ (v : Window). IsDrawn v c.in-Some.origin.place) c.window.ensures.window (c.has.ensures.0 c.if-has.true) in
    sides c.args.trace.now.run c.args.layout.now c.args.message c.args.who c.in-Some.origin c.stands_right.result c.in-Some.ensures drawn c.stands_right.ensures

pub returns : goal.returns
returns c = sender_left c.args.trace.now.run c.args.layout.now c.args.message c.args.who c.in-Some.origin c.in-Some.ensures
    (λ d. let h = c.has.ensures.1 (subst (λ (v : Window). IsDrawn v c.in-Some.origin.place) (sym c.window.ensures.window) d) in let f = c.if-has.false in cc)
