use Rattle.std.proofs.Common.{◌<◌, length, arith}
use Rattle.tau_sexpr.proofs.PrintLemmas.{printed_more, top_bytes_more, begins_after, on_err}
use Rattle.tau_sexpr.proofs.printer.put_lines.Goals as goal

pub loop-form-preserved : goal.loop-form-preserved
loop-form-preserved c =
    let fs = c.items-items.result.now in
    let lt : c.loop-form.form-index < length fs = omega arith in
    record {
      text = printed_more fs c.loop-form.form-index c.form-item.result c.args.out.now.items c.loop-form.out.items c.put_line.new.out.items lt c.form-item.is c.loop-form.invariant.text c.in_ok-put_line.ensures.text;
      bytes = top_bytes_more fs c.loop-form.form-index c.form-item.result lt c.form-item.is c.loop-form.invariant.bytes c.in_ok-put_line.ensures.bytes;
    }

pub returns-in_err-put_line-clause-begins : goal.returns-in_err-put_line-clause-begins
returns-in_err-put_line-clause-begins c =
    on_err c.from_residual.result
    (begins_after c.args.out.now.items _ c.loop-form.out.items c.put_line.new.out.items c.loop-form.invariant.text c.in_err-put_line.ensures.begins)
