use Rattle.tau_sexpr.proofs.PrintLemmas.{begins_same, begins_after, on_err}
use Rattle.tau_sexpr.proofs.printer.put_line.Goals as goal

pub returns-in_err-push-clause-begins : goal.returns-in_err-push-clause-begins
returns-in_err-push-clause-begins c =
    on_err c.from_residual-in_err-push.result
    (begins_after c.args.out.now.items _ c.put_form.new.out.items c.push.new.self.items c.in_ok-put_form.ensures.text
    (begins_same c.put_form.new.out.items c.push.new.self.items c.in_err-push.ensures.items))
