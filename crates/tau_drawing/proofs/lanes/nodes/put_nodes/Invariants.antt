use Rattle.std.proofs.Common.{◌≡◌}
use Rattle.tau_svg.specs.Markup.Lines.{with_lines}
use Rattle.tau_drawing.specs.Lanes.Bands.{bands_below}
use Rattle.tau_drawing.proofs.lanes.nodes.put_nodes.Given as goal

abbrev pub invariant-loop-node : goal.invariant-loop-node
invariant-loop-node l = l.out.items ≡ with_lines l.fn.out.items (bands_below l.layout l.node)
