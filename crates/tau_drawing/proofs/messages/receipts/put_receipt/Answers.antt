use Rattle.std.proofs.Common.{◌∙◌, sym}
use Rattle.tau_drawing.proofs.BearerLemmas.{bearer_missing, met_exists}
use Rattle.tau_drawing.proofs.LineLemmas.{receipt_written, receipt_none}
use Rattle.tau_drawing.proofs.messages.receipts.put_receipt.Goals as goal

pub returns-in_default : goal.returns-in_default
returns-in_default c = receipt_none c.args.drawing.now.program.now c.args.drawing.now.trace.now.run c.args.drawing.now.layout.now c.args.place c.args.number c.args.step.now c.args.out.now.items c.in_default.ensures.middle

pub returns : goal.returns
returns c =
    receipt_written c.args.drawing.now.program.now c.args.drawing.now.trace.now.run c.args.drawing.now.layout.now c.args.place c.args.number c.args.step.now c.in-Some.middle c.in-Some-bearer_at.bearer c.args.drawing.now.bearers.now c.source_of-source.result c.grid-grid.result c.in_row-at.result c.args.out.now.items c.put_receipt_line.new.out.items
    c.requires.opening c.requires.bearers (sym c.bearer_at.ensures ∙ c.in-Some-bearer_at.is) c.in-Some.ensures.middle c.source_of-source.ensures.source c.grid-grid.ensures.grid c.in_row-at.ensures.x c.in_row-at.ensures.y
    (c.in_ok-put_receipt_line.ensures)

pub unreachable-requires : goal.unreachable-requires
unreachable-requires c =
    let T = c.args.drawing.now.trace.now.run in
    let exists = met_exists T c.args.place c.args.number c.args.step.now c.requires.well_formed c.requires.stands c.requires.meets in
    bearer_missing T c.args.drawing.now.bearers.now c.args.number c.requires.bearers exists (sym c.bearer_at.ensures ∙ c.in_default-bearer_at.is)
