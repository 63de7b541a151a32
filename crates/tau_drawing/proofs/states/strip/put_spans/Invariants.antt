use Rattle.std.proofs.Common.{◌≡◌, take}
use Rattle.std.specs.List.{flat_map}
use Rattle.tau_svg.specs.Markup.Lines.{with_lines}
use Rattle.tau_drawing.specs.States.StripLines.{span_lines}
use Rattle.tau_drawing.proofs.states.strip.put_spans.Given as goal

abbrev pub invariant-loop-seen : goal.invariant-loop-seen
invariant-loop-seen l = l.out.items ≡ with_lines l.fn.out.items (flat_map (span_lines l.layout l.rank) (take l.seen-index l.all))
