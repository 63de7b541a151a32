use Rattle.std.proofs.Common.{◌<◌, length, arith}
use Rattle.tau_sexpr.proofs.FormLemmas.{size_of_list}
use Rattle.tau_sexpr.proofs.PrintLemmas.{size_in, items_more, bytes_more, begins_same, begins_after, on_err}
use Rattle.tau_sexpr.proofs.printer.+put.Goals as goal

pub put_form-put_items-requires : goal.put_form-put_items-requires
put_form-put_items-requires t c = (omega (arith, size_of_list c.args.form.now c.in-List.items c.in-List.is), tt)

pub put_items-put_form-requires : goal.put_items-put_form-requires
put_items-put_form-requires t c = (omega (arith, size_in c.items-items.result.now c.args.forms.now c.loop-k.k c.index-items-k.result c.items-items.ensures (omega arith) c.index-items-k.is), tt)

pub put_items-loop-k-preserved : goal.put_items-loop-k-preserved
put_items-loop-k-preserved t c =
    let fs = c.items-items.result.now in
    let lt : c.loop-k.k < length fs = omega arith in
    record {
      text = items_more fs c.loop-k.k c.index-items-k.result c.args.out.now.items c.loop-k.out.items c.put_gap.new.out.items c.put_form.new.out.items lt c.index-items-k.is c.loop-k.invariant.text c.in_ok-put_gap.ensures.text
          c.in_ok-put_form.ensures.text;
      bytes = bytes_more fs c.loop-k.k c.index-items-k.result lt c.index-items-k.is c.loop-k.invariant.bytes c.in_ok-put_form.ensures.bytes;
    }

pub put_form-returns-in_err-push-in-List-2-clause-begins : goal.put_form-returns-in_err-push-in-List-2-clause-begins
put_form-returns-in_err-push-in-List-2-clause-begins t c =
    on_err c.from_residual-in_err-push-in-List-2.result
    (begins_after c.args.out.now.items _ c.push.new.self.items c.push-in-List.new.self.items c.in_ok-push-in-List.ensures.items
    (begins_after c.push.new.self.items _ c.put_items.new.out.items c.push-in-List.new.self.items c.in_ok-put_items-in-List.ensures.text
    (begins_same c.put_items.new.out.items c.push-in-List.new.self.items c.in_err-push-in-List-2.ensures.items)))

pub put_items-returns-in_err-put_gap-clause-begins : goal.put_items-returns-in_err-put_gap-clause-begins
put_items-returns-in_err-put_gap-clause-begins t c =
    on_err c.from_residual.result
    (begins_after c.args.out.now.items _ c.loop-k.out.items c.put_gap.new.out.items c.loop-k.invariant.text c.in_err-put_gap.ensures.begins)

pub put_items-returns-in_err-put_form-clause-begins : goal.put_items-returns-in_err-put_form-clause-begins
put_items-returns-in_err-put_form-clause-begins t c =
    on_err c.from_residual-in_err-put_form.result
    (begins_after c.args.out.now.items _ c.loop-k.out.items c.put_form.new.out.items c.loop-k.invariant.text
    (begins_after c.loop-k.out.items _ c.put_gap.new.out.items c.put_form.new.out.items c.in_ok-put_gap.ensures.text c.in_err-put_form.ensures.begins))

pub put_form-returns-in_err-put_items-in-List-clause-begins : goal.put_form-returns-in_err-put_items-in-List-clause-begins
put_form-returns-in_err-put_items-in-List-clause-begins t c =
    on_err c.from_residual-in_err-put_items-in-List.result
    (begins_after c.args.out.now.items _ c.push.new.self.items c.put_items.new.out.items c.in_ok-push-in-List.ensures.items c.in_err-put_items-in-List.ensures.begins)
