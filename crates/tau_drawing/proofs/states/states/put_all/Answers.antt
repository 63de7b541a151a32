use Rattle.std.proofs.Common.{ap, arith, subst, List}
use Rattle.std.proofs.lemmas.List.{take_all}
use Rattle.tau_svg.specs.Shapes.Each.{EachItem, Writes}
use Rattle.tau_svg.proofs.Writing.{items_first}
use Rattle.tau_scene.specs.declared.looks.looks.Seen.{Seen}
use Rattle.tau_drawing.specs.States.StateLines.{IsStateAt}
use Rattle.tau_drawing.proofs.Lists.{item_next, any_seen}
use Rattle.tau_drawing.proofs.states.states.put_all.Goals as goal

pub loop-seen-init : goal.loop-seen-init
loop-seen-init c = items_first (IsStateAt c.args.trace.now.run c.args.layout.now c.args.x) c.args.out.now.items

pub loop-seen-preserved : goal.loop-seen-preserved
loop-seen-preserved c =
    item_next (IsStateAt c.args.trace.now.run c.args.layout.now c.args.x) c.args.all.now c.loop-seen.seen-index any_seen c.args.out.now.items c.loop-seen.out.items c.put_state.new.out.items (omega (arith, c.loop-seen-test.true)) c.loop-seen.invariant c.in_ok-put_state.ensures

pub returns : goal.returns
returns c =
    subst (λ (xs : List Seen). Writes (EachItem (IsStateAt c.args.trace.now.run c.args.layout.now c.args.x) xs) c.args.out.now.items c.loop-seen.out.items) (take_all c.loop-seen.seen-index c.args.all.now c.loop-seen-test.false) c.loop-seen.invariant
