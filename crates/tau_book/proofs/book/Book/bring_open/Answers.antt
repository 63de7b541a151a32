use Rattle.std.proofs.Common.{Option, refl, ◌∙◌, ap, subst}
use Rattle.tau_value.specs.declared.shared.Value.{Value}
use Rattle.tau_rules.specs.Answers.{acted_by}
use Rattle.tau_book.specs.Hands.{joined}
use Rattle.tau_book.specs.Tolds.{IsTried, goes_on, is_over}
use Rattle.tau_book.proofs.book.Book.bring_open.Goals as goal

pub returns-in-Ok-Some-clause-ok : goal.returns-in-Ok-Some-clause-ok
returns-in-Ok-Some-clause-ok g c =
    goes_on (subst (λ (o : Option Value). IsTried c.args.self.now c.try_open.new.self c.args.pending (acted_by o)) c.in-Ok-Some.field-0-is c.in-Ok-Some.ensures.ok)
    (c.keep.ensures ∙ ap (joined c.args.hand.now) c.resume.ensures)

pub returns-in-Ok-None-clause-ok : goal.returns-in-Ok-None-clause-ok
returns-in-Ok-None-clause-ok g c =
    is_over (subst (λ (o : Option Value). IsTried c.args.self.now c.try_open.new.self c.args.pending (acted_by o)) c.in-Ok-None.field-0-is c.in-Ok-None.ensures.ok) refl
