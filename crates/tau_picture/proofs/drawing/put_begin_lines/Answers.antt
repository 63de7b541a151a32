use Rattle.tau_picture.proofs.Joins.{begin_parts}
use Rattle.tau_picture.proofs.drawing.put_begin_lines.Goals as goal

pub returns-clause-lines : goal.returns-clause-lines
returns-clause-lines c =
    begin_parts c.args.trace.now.run c.args.layout.now c.grid-grid.result c.len.result c.grid-grid.ensures.grid c.len.ensures.len
    c.args.out.now.items c.put_begin.new.out.items c.put_title.new.out.items c.put_style.new.out.items c.put_symbols.new.out.items c.put_paper.new.out.items
    c.in_ok-put_begin.ensures c.in_ok-put_title.ensures c.in_ok-put_style.ensures c.in_ok-put_symbols.ensures c.in_ok-put_paper.ensures
