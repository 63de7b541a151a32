use Rattle.std.proofs.Common.{None, arith}
use Rattle.tau_svg.proofs.Writing.{items_first}
use Rattle.tau_explain.specs.declared.chains.chained.Chained.{Chained}
use Rattle.tau_picture.specs.Chains.{LinkLines}
use Rattle.tau_drawing.proofs.Lists.{item_next}
use Rattle.tau_picture.proofs.chain.put_links.Goals as goal

pub loop-chained-init : goal.loop-chained-init
loop-chained-init c = items_first (LinkLines c.args.trace.now.run c.args.layout.now c.args.looks.now) c.args.out.now.items

pub loop-chained-preserved : goal.loop-chained-preserved
loop-chained-preserved c =
    let d : Chained = record { point = record { who = 0; interval = 0; incarnation = 0 }; by = None } in
    item_next (LinkLines c.args.trace.now.run c.args.layout.now c.args.looks.now) c.items-chained-items.result.now c.loop-chained.chained-index d c.args.out.now.items c.loop-chained.out.items c.put_link.new.out.items (omega (arith, c.loop-chained-test.true)) c.loop-chained.invariant c.in_ok-put_link.ensures
