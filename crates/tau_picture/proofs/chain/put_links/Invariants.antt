use Rattle.std.proofs.Common.{take}
use Rattle.tau_svg.specs.Shapes.Each.{EachItem, Writes}
use Rattle.tau_picture.specs.Chains.{LinkLines}
use Rattle.tau_picture.proofs.chain.put_links.Given as goal

abbrev pub invariant-loop-chained : goal.invariant-loop-chained
invariant-loop-chained l = Writes (EachItem (LinkLines l.trace.run l.layout l.looks) (take l.chained-index l.chained-items)) l.fn.out.items l.out.items
