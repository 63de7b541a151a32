use Rattle.std.proofs.Common.{ap, ◌∙◌, arith}
use Rattle.std.specs.List.{flat_map}
use Rattle.std.proofs.lemmas.List.{take_all}
use Rattle.tau_svg.specs.Markup.Lines.{with_lines}
use Rattle.tau_drawing.specs.States.StripLines.{span_lines}
use Rattle.tau_drawing.proofs.Lists.{lines_more, any_seen}
use Rattle.tau_drawing.proofs.states.strip.put_spans.Goals as goal

pub loop-seen-preserved : goal.loop-seen-preserved
loop-seen-preserved c =
    lines_more (span_lines c.args.layout.now c.args.rank) c.args.all.now c.loop-seen.seen-index any_seen c.args.out.now.items c.loop-seen.out.items c.put_seen.new.out.items (omega (arith, c.loop-seen-test.true)) c.loop-seen.invariant c.in_ok-put_seen.ensures

pub returns : goal.returns
returns c = c.loop-seen.invariant ∙ ap (λ xs. with_lines c.args.out.now.items (flat_map (span_lines c.args.layout.now c.args.rank) xs)) (take_all c.loop-seen.seen-index c.args.all.now c.loop-seen-test.false)
