use Rattle.std.proofs.Common.{◌≡◌, ◌∙◌, sym, ap, refl, arith}
use Rattle.tau_svg.proofs.Writing.{these}
use Rattle.tau_svg.specs.Markup.Lines.{with_lines}
use Rattle.tau_svg.proofs.LineLemmas.{lines_joined}
use Rattle.tau_drawing.specs.Lanes.Bands.{bands_below, band_lines, AreNodeBands}
use Rattle.tau_trace.specs.declared.opening.Opening.{Opening}
use Rattle.tau_drawing.proofs.BandLemmas.{bands_more}
use Rattle.tau_drawing.proofs.lanes.nodes.put_nodes.Goals as goal

pub loop-node-preserved : goal.loop-node-preserved
loop-node-preserved c =
    let plan = c.args.layout.now in
    let n = c.loop-node.node in
    c.in_ok-put_node.ensures ∙ ap (λ w. with_lines w (band_lines plan n)) c.loop-node.invariant ∙ sym (lines_joined c.args.out.now.items (bands_below plan n) (band_lines plan n))
    ∙ ap (with_lines c.args.out.now.items) (sym (bands_more plan n))

pub returns : goal.returns
returns c =
    let T = c.args.trace.now.run in
    let plan = c.args.layout.now in
    let ended : c.loop-node.node ≡ c.opening.result.now.nodes = omega (arith, c.loop-node-test.false, c.loop-node.auto.node-end) in
    these (AreNodeBands T plan) c.args.out.now.items c.loop-node.out.items (bands_below plan T.opening.nodes) refl
    (c.loop-node.invariant ∙ ap (λ n. with_lines c.args.out.now.items (bands_below plan n)) (ended ∙ ap (λ (o : Opening). o.nodes) c.opening.ensures.value))
