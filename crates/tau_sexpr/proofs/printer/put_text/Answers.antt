use Rattle.tau_sexpr.proofs.PrintLemmas.{begins_same, begins_after, on_err}
use Rattle.tau_sexpr.proofs.printer.put_text.Goals as goal

pub returns-in_err-put_byte-clause-begins : goal.returns-in_err-put_byte-clause-begins
returns-in_err-put_byte-clause-begins c =
    on_err c.from_residual-in_err-put_byte.result
    (begins_after c.args.out.now.items _ c.push.new.self.items c.put_byte.new.out.items c.in_ok-push.ensures.items
    (begins_after c.push.new.self.items _ c.loop-byte.out.items c.put_byte.new.out.items c.loop-byte.invariant c.in_err-put_byte.ensures.begins))

pub returns-in_err-push-2-clause-begins : goal.returns-in_err-push-2-clause-begins
returns-in_err-push-2-clause-begins c =
    on_err c.from_residual-in_err-push-2.result
    (begins_after c.args.out.now.items _ c.push.new.self.items c.push-2.new.self.items c.in_ok-push.ensures.items
    (begins_after c.push.new.self.items _ c.loop-byte.out.items c.push-2.new.self.items c.loop-byte.invariant
    (begins_same c.loop-byte.out.items c.push-2.new.self.items c.in_err-push-2.ensures.items)))
