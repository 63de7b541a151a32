use Rattle.std.proofs.Common.{◌≡◌, ℕ, List, sym, ap, ◌∙◌}
use Rattle.tau_value.specs.Val.{Val}
use Rattle.tau_value.specs.Value.{val_of}
use Rattle.tau_eval.specs.Answered.{answer_of}
use Rattle.tau_eval.specs.Operations.{Answer, of_two}
use Rattle.tau_eval.specs.Outcome.{Outcome, After, and_then, finished, effect_of}
use Rattle.tau_eval.specs.Machine.{rest_of, running, moved}
use Rattle.tau_eval.proofs.machine.Machine.combine.Goals as goal

combined : (a b : Answer) (n m : ℕ) (rs : List Val) (k j : Val → After) (o : Outcome) → a ≡ b → n ≡ m → k ≡ j → and_then (finished b m rs) j ≡ o → effect_of (and_then (finished a n rs) k) ≡ effect_of o
combined a b n m rs k j o same count rest e =
    ap (λ (x : Answer). effect_of (and_then (finished x n rs) k)) same ∙ ap (λ (x : ℕ). effect_of (and_then (finished b x rs) k)) count ∙ ap (λ (x : Val → After). effect_of (and_then (finished b m rs) x)) rest ∙ ap effect_of e

pub returns-in-Ok-clause-goes : goal.returns-in-Ok-clause-goes
returns-in-Ok-clause-goes c = λ s rs.
    let after = c.release.new.self in
    combined (of_two c.args.prim (val_of c.args.one) (val_of c.args.two)) (answer_of c.in-Ok.answer) c.args.self.now.count after.count rs (rest_of c.args.self.now s c.args.self.now.scope) (rest_of after s after.scope) (moved c.follow.new.self s c.follow.result rs) (sym c.in-Ok.ensures.ok) (sym c.release.ensures.count) (sym (c.release.ensures.goes s)) (ap (λ (o : Outcome). and_then o (rest_of after s after.scope)) (c.finish.ensures.value s after.scope after.count rs) ∙ c.follow.ensures.goes s rs)

pub returns-in-Err-clause-goes : goal.returns-in-Err-clause-goes
returns-in-Err-clause-goes c = λ s rs.
    let after = c.release.new.self in
    let same : of_two c.args.prim (val_of c.args.one) (val_of c.args.two) ≡ of_two c.args.prim (val_of c.in-Err.left) (val_of c.in-Err.two) = ap (λ (v : Val). of_two c.args.prim v (val_of c.args.two)) (sym c.in-Err.ensures.err.0) ∙ ap (of_two c.args.prim (val_of c.in-Err.left)) (sym c.in-Err.ensures.err.1) in
    combined (of_two c.args.prim (val_of c.args.one) (val_of c.args.two)) (of_two c.args.prim (val_of c.in-Err.left) (val_of c.in-Err.two)) c.args.self.now.count after.count rs (rest_of c.args.self.now s c.args.self.now.scope) (rest_of after s after.scope) (running c.put_back.new.self s c.put_back.result rs) same (sym c.release.ensures.count) (sym (c.release.ensures.goes s)) (c.put_back.ensures.goes s rs)
